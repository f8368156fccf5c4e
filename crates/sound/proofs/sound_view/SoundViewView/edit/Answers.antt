use Rattle.std.proofs.Math.Logic.{∥∥₁_prop}
use Rattle.sound.specs.Once.{kept}
use Rattle.sound.proofs.Refusing.{refused_whole}
use Rattle.sound.proofs.sound_view.SoundViewView.edit.Goals as goal

pub edit-requires : goal.edit-requires
edit-requires g c = kept (g.met.V.SoundOnce.once c.args.self.now.view) c.args.self.now.sound

pub returns-clause-does : goal.returns-clause-does
returns-clause-does g c = refused_whole _ _ _ (λ z. ∥∥₁_prop) (λ z s. record { view = z; sound = s }) _ _ _ _ c.edit.result c.edit.ensures.does
