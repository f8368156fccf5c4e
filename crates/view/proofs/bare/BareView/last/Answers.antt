use Rattle.std.proofs.Common.{length}
use Rattle.view.proofs.Answering.{place_same}
use Rattle.view.specs.Identity.{identity_last}
use Rattle.view.proofs.bare.BareView.last.Goals as goal

pub returns : goal.returns
returns g c = place_same (λ q. q) _ _ c.args.p c.place.result (identity_last (length (g.B.Buffer.doc c.args.self.now.store))) c.place.ensures
