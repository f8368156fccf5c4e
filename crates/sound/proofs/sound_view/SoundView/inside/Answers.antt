use Rattle.sound.specs.Once.{kept}
use Rattle.sound.proofs.sound_view.SoundView.inside.Goals as goal

pub returns-clause-sound : goal.returns-clause-sound
returns-clause-sound g c = kept (g.met.V.SoundOnce.once c.args.self.now.view) c.args.self.now.sound
