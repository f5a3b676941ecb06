-- Laws of the words of a row: the front of lent words written, and a row of a table by it. Assumes nothing.
use Prim.Native.Nat.{ℕ, ◌+◌, ◌-◌, ◌*◌, ◌≤◌}
use mathlib.Core.Bool.{Bool, true, false}
use mathlib.Core.List.{List, ◌++◌, append-nil}
use mathlib.Core.Path.{◌≡◌, refl, sym, ◌∙◌}
use native.Mathlib.Nat.{le_of_eq, zero-add}
use lib.ListN.{length, take, drop, length-drop, drop_of_length-le}
use lib.Seq.{sets, sets-eq, drop-drop, take_all}
use mir.Val.{bool_byte}
use Rattle.protocol.specs.Lent.{mark_of}
use Rattle.rows.specs.Rows.{put_row}

-- the front of the rest behind row i written is row i written
pub put-rest : (w i : ℕ) (ws new vs : List ℕ) → vs ≡ new ++ drop w (take (length ws - w * i) (drop (w * i) ws))
    → take (w * i) ws ++ (vs ++ drop (length ws - w * i) (drop (w * i) ws)) ≡ put_row w ws i new
unfolding put_row
put-rest w i ws new vs e =
    let n = w * i in
    let whole : length (drop n ws) ≤ length ws - n = le_of_eq (length-drop n ws) in
    rw (e, take_all (length ws - n) (drop n ws) whole, drop_of_length-le (drop n ws) whole, append-nil, drop-drop w n ws) refl

-- words written one after the other from the front on
pub front-sets : (ws new : List ℕ) → length new ≤ length ws → sets ws 0 new ≡ new ++ drop (length new) ws
front-sets ws new h = sets-eq new ws 0 (rw (zero-add (length new)) h) ∙ rw (zero-add (length new)) refl

-- a flag as a word
pub mark-word : (b : Bool) → bool_byte b ≡ mark_of b
mark-word true = refl
mark-word false = refl
