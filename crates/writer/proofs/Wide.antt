-- Whether narrow writing meets a number that is too wide, by what is taken of the tables. Assumes nothing.
use Prim.Native.Nat.{ℕ}
use mathlib.Core.Path.{◌≡◌, refl, sym, ap, ◌∙◌}
use mathlib.Core.Bool.{Bool, true, false, ◌||◌, false≢true}
use mathlib.Core.List.{List}
use Rattle.protocol.specs.declared.Width.{Width}
use Rattle.protocol.specs.declared.Width.TheVariants.{Narrow, Wide}
use Rattle.protocol.specs.Lists.{any_pass}
use Rattle.protocol.specs.Words.{is_wide}
use Rattle.protocol.specs.Packet.{Packet}
use Rattle.protocol.specs.Calls.Write.{sent_of, has_wide, too_wide}
use Rattle.writer.specs.Sent.{node_in, RowsReadable}
use Rattle.writer.proofs.Packet.{bs, vs, blocks-taken, votes-taken}

-- numbers written wide are never too wide
pub wide_enough : (width : Width) (p : Packet) → width ≡ Wide → too_wide width p ≡ false
unfolding too_wide
wide_enough width p e = rw e

module _ (proposal : Bool) (width : Width) (blocks : List ℕ) (blocks_used : ℕ) (votes : List ℕ) (votes_used : ℕ) (ok : RowsReadable blocks blocks_used votes votes_used) where
  abbrev sent : Packet
  sent = sent_of proposal width (node_in blocks blocks_used votes votes_used)

  abbrev pub block_wide : Bool
  block_wide = any_pass (λ b. is_wide b.number || is_wide b.parent) (bs proposal width blocks blocks_used votes votes_used ok)

  abbrev pub vote_wide : Bool
  vote_wide = any_pass (λ a. is_wide a.number) (vs proposal width blocks blocks_used votes votes_used ok)

  pub narrow-met : (number : ℕ) → number ≡ sent.number → width ≡ Narrow → too_wide width sent ≡ (is_wide number || (block_wide || vote_wide))
  unfolding too_wide has_wide
  narrow-met number e w =
      ap (λ (v : Width). too_wide v sent) w
      ∙ (λ i. is_wide (sym e i)
      || (any_pass (λ b. is_wide b.number || is_wide b.parent) (blocks-taken proposal width blocks blocks_used votes votes_used ok i)
      || any_pass (λ a. is_wide a.number) (votes-taken proposal width blocks blocks_used votes votes_used ok i)))

  -- the first two tests decide, or the third does
  module _ (number : ℕ) (e : number ≡ sent.number) (w : width ≡ Narrow) (two : Bool) (f : two ≡ (is_wide number || block_wide)) where
    pub narrow-two : two ≡ true → two ≡ too_wide width sent
    narrow-two t = f ∙ go (is_wide number) block_wide (sym f ∙ t) ∙ sym (narrow-met number e w)
      where
        go : (x b : Bool) → (x || b) ≡ true → (x || b) ≡ (x || (b || vote_wide))
        go true b t = refl
        go false true t = refl
        go false false t = absurd (false≢true t)

    pub narrow-third : two ≡ false → vote_wide ≡ too_wide width sent
    narrow-third t = go (is_wide number) block_wide (sym f ∙ t) ∙ sym (narrow-met number e w)
      where
        go : (x b : Bool) → (x || b) ≡ false → vote_wide ≡ (x || (b || vote_wide))
        go false false t = refl
        go true b t = absurd (false≢true (sym t))
        go false true t = absurd (false≢true (sym t))
