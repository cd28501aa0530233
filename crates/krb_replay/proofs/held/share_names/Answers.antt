use Rattle.std.proofs.Common.{◌∙◌, sym}
use Rattle.krb_replay.proofs.OrderLaws.{exact_pairs}
use Rattle.krb_replay.proofs.held.share_names.Goals as goal

pub with_names-requires : goal.with_names-requires
with_names-requires c =
    c.in_ok-shared-in-Some.ensures
    ∙ (sym (exact_pairs c.pair.result.now c.in-Some.pair.now c.in-Some.ensures) ∙ (c.pair.ensures ∙ c.names.ensures))
