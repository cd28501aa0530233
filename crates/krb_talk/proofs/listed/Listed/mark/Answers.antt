-- mark
use Rattle.std.proofs.Common.{◌∙◌, ℕ, List, Bool, ap, subst, sym}
use Rattle.krb_ap.specs.Answer.{taken_of}
use Rattle.krb_context.specs.Context.{State}
use Rattle.krb_gss.specs.Checksum.{bytes_if}
use Rattle.krb_talk.specs.Beginning.{IsContextFor, IsNoContextFor}
use Rattle.std.specs.Prelude.{is_some}
use Rattle.krb_talk.specs.Checking.{Check, IsCheckFault, check_of}
use Rattle.krb_talk.specs.Inner.{HasNext}
use Rattle.krb_talk.specs.ListMic.{MarksIn, RepliesIf}
use Rattle.krb_talk.specs.States.{Listing}
use Rattle.krb_talk.specs.declared.checking.ListFault.{ListFault}
use Rattle.krb_talk.proofs.Checks as checks
use Rattle.krb_talk.proofs.listed.Listed.mark.Goals as goal

pub returns-in-Err-context_for : goal.returns-in-Err-context_for
returns-in-Err-context_for c =
    let check : Check = check_of c.args.self.now.list c.args.bytes.now c.args.accepted.now c.args.chosen in
    let list = c.as_slice-list.ensures.value ∙ ap (λ (l : Listing). l.list) c.self.view_is in
    checks.not_begun check c.in-Ok.held.0 (bytes_if c.in-Ok.held.1) c.in-Ok.ensures.found c.in-Err-context_for.fault
    (subst (λ (l : List ℕ). IsNoContextFor check.accepted check.choice check.options l (bytes_if c.in-Ok.held.1) c.in-Err-context_for.fault)
    list c.in-Err-context_for.ensures.fault)

pub marked-requires : goal.marked-requires
marked-requires c =
    let check : Check = check_of c.as_slice-list.result.now c.args.bytes.now c.args.accepted.now c.args.chosen in
    subst (λ (s : State). HasNext s) (sym c.deref_mut.ensures.value)
    (checks.next_of check c.in-Ok.held.0 (bytes_if c.in-Ok.held.1) c.in-Ok-context_for.context.value c.in-Ok-context_for.ensures.begun)

pub returns-in-Ok-marked : goal.returns-in-Ok-marked
returns-in-Ok-marked c =
    let check : Check = check_of c.args.self.now.list c.args.bytes.now c.args.accepted.now c.args.chosen in
    let list = c.as_slice-list.ensures.value ∙ ap (λ (l : Listing). l.list) c.self.view_is in
    let mic = bytes_if c.in-Ok.held.1 in
    let is_shown = c.is_some-is_shown.ensures ∙ checks.is_there c.in-Ok.held.1 in
    let begun = subst (λ (l : List ℕ). IsContextFor check.accepted check.choice check.options l mic c.in-Ok-context_for.context.value)
    list c.in-Ok-context_for.ensures.begun in
    let replies = RepliesIf check.accepted.mutual (taken_of check.accepted) c.in-Ok.held.0 check.confounder check.choice in
    let one = subst (λ (l : List ℕ). MarksIn l c.is_some-is_shown.result replies c.deref_mut.result.now c.marked.new.context c.in-Ok-marked.sent.items)
    list c.in-Ok-marked.ensures.marked in
    let two = subst (λ (b : Bool). MarksIn check.list b replies c.deref_mut.result.now c.marked.new.context c.in-Ok-marked.sent.items) is_shown one in
    let three = subst (λ (s : State). MarksIn check.list (is_some mic) replies s c.marked.new.context c.in-Ok-marked.sent.items) c.deref_mut.ensures.value two in
    checks.prepared check c.in-Ok.held.0 mic c.in-Ok.ensures.found c.in-Ok-context_for.context.value begun _ is_shown three

pub returns-in-Err-marked : goal.returns-in-Err-marked
returns-in-Err-marked c =
    let check : Check = check_of c.args.self.now.list c.args.bytes.now c.args.accepted.now c.args.chosen in
    let list = c.as_slice-list.ensures.value ∙ ap (λ (l : Listing). l.list) c.self.view_is in
    let mic = bytes_if c.in-Ok.held.1 in
    subst (λ (fault : ListFault). IsCheckFault check fault) (sym c.in-Err-marked.ensures.memory)
    (checks.without_room check c.in-Ok.held.0 mic c.in-Ok.ensures.found c.in-Ok-context_for.context.value
    (subst (λ (l : List ℕ). IsContextFor check.accepted check.choice check.options l mic c.in-Ok-context_for.context.value)
    list c.in-Ok-context_for.ensures.begun))
