use Rattle.std.proofs.Common.{length}
use Rattle.view.proofs.Answering.{place_same}
use Rattle.view.specs.Identity.{identity_first}
use Rattle.view.proofs.bare.BareView.first.Goals as goal

pub returns : goal.returns
returns g c = place_same (λ q. q) _ _ c.args.p c.place.result (identity_first (length (g.B.Buffer.doc c.args.self.now.store))) c.place.ensures
