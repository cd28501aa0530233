-- A login that goes on: how far it is, and how its context takes and writes tokens.
use Rattle.krb_context.specs.declared.agreed.Options.{Options}
use Rattle.krb_talk.specs.declared.stage.Stage.{Stage}

pub record Talk : Type 0 where
  pub stage : Stage
  pub options : Options
