-- A number that names no profile is refused. Assumes nothing.
use mathlib.Core.Bool.{and-false}
use mathlib.Core.Path.{refl}
use Rattle.protocol.specs.Limits.{limits_of}
use Rattle.protocol.specs.Sound.{in_range, settings_sound, sound}
use Rattle.protocol.specs.Refusal.{first}
use Rattle.protocol.specs.Calls.Open.{open_tests}
use Rattle.protocol.specs.Lent.{open_verdict, open_lent, lent_sound}
use Rattle.capi.specs.Structs.{node_settings, UnnamedRefused}

pub unnamed-refused : UnnamedRefused
unfolding UnnamedRefused node_settings open_lent open_verdict open_tests first in_range limits_of lent_sound sound settings_sound
unnamed-refused s a b m = rw (a, b) (refl, simp and-false)
