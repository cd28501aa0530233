use Rattle.krb_context.proofs.direction.Direction.verify_mic.Goals as goal

pub returns : goal.returns
returns c = rw c.self.view_is at c.verify_mic.ensures
