use Rattle.krb_context.proofs.direction.Direction.mic_to.Goals as goal

pub returns : goal.returns
returns c = rw c.self.view_is at c.mic_to.ensures
