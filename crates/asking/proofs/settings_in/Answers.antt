-- `asking::settings_in` meets its contract. Assumes nothing.
use Rattle.protocol.specs.declared.Profile.TheVariants.{Loom}
use Rattle.asking.specs.Ask.{settings_in}
use Rattle.asking.proofs.settings_in.Goals as goal

pub returns : goal.returns
unfolding settings_in
returns c =
    let n = c.number_at.ensures.0 in
    let e = c.number_at-2.ensures.0 in
    let k = c.number_at-3.ensures.0 in
    λ i. record { profile = Loom; nodes = n i; own = 0; expiry = e i; depth = k i }
