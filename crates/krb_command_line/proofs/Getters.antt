-- What the getters of clap's matches read, by the rows of these.
use Rattle.clap.proofs.WalkLemmas.{first_value-rows, one_text-rows}

pub ruleset getters = (first_value-rows, one_text-rows)
