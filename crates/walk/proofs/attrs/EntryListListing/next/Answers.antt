use mathlib.Core.Path.{◌≡◌}
use native.Mathlib.Omega.{arith}
use Rattle.walk.specs.Walk.{one_more}
use Rattle.walk.proofs.attrs.EntryListListing.next.Goals as goal

pub returns : goal.returns
unfolding one_more
returns c =
    let n : c.min.result ≡ one_more c.args.self.count = omega arith in
    rw (n, c.max.ensures, c.after_at-after.ensures.0)
