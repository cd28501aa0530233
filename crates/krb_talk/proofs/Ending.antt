-- After a decision nobody is let in by another one.
use Rattle.std.proofs.Common.{◌≡◌, ◌∙◌, ℕ, List, ◌∷◌, Result, Ok, Err, sym, subst, arith}
use Rattle.krb_ap.specs.declared.reply.ReplyOptions.{ReplyOptions}
use Rattle.krb_context.specs.declared.agreed.Options.{Options}
use Rattle.krb_gss.specs.Later.{IsLaterToken}
use Rattle.krb_gss.specs.declared.fault.TokenFault.TheVariants as faults
use Rattle.krb_gss.specs.declared.mechanism.Mechanism.{Mechanism}
use Rattle.krb_gss.specs.declared.negotiating.Negotiation.{Negotiation}
use Rattle.krb_gss.specs.declared.negotiating.Negotiation.TheVariants.{Asked, Ended}
use Rattle.krb_login.specs.declared.decision.Decision.{Decision as LoginDecision}
use Rattle.krb_login.specs.declared.decision.Decision.TheVariants as decisions
use Rattle.krb_talk.specs.Checking.{Check, Checks}
use Rattle.krb_talk.specs.Laws.{IsGoOn, IsIn}
use Rattle.krb_talk.specs.States.{Listing}
use Rattle.krb_talk.specs.Talk.{ConcludesBy, IsListed, IsUnshown, Leads}
use Rattle.krb_talk.specs.Turns.{ConcludesAt, ConcludesEnded, Takes, takes_list, takes_none, is_passed, is_checked, takes_last}
use Rattle.krb_talk.specs.declared.checking.Checking.{Checking}
use Rattle.krb_talk.specs.declared.checking.Checking.TheVariants as checked
use Rattle.krb_talk.specs.declared.checking.ListFault.{ListFault}
use Rattle.krb_talk.specs.declared.checking.ListFault.TheVariants.{Token}
use Rattle.krb_talk.specs.declared.decision.Decision.{Decision}
use Rattle.krb_talk.specs.declared.decision.Decision.TheVariants.{LetIn, Shown, GoOn, Refused, Unshown}
use Rattle.krb_talk.specs.declared.stage.Stage.{Stage}
use Rattle.krb_talk.specs.declared.stage.Stage.TheVariants.{Login}
use Rattle.krb_talk.specs.declared.talk.Turn.TheVariants.{Decided, Serve}

unshown_not_in : (fault : ListFault) (decision : Decision) → IsUnshown fault decision → IsIn decision → ⊥
unshown_not_in fault (LetIn login) it is = it
unshown_not_in fault (Shown login) it is = it
unshown_not_in fault (GoOn sent) it is = is
unshown_not_in fault (Refused refused) it is = is
unshown_not_in fault (Unshown unshown) it is = is

in_as : (decision other : Decision) → decision ≡ other → IsIn decision → IsIn other
in_as decision other same is = subst IsIn same is

same_decision : (a b : Decision) → Decided a ≡ Decided b → a ≡ b
same_decision a b e = cc

not_served : (a : Decision) (n : Negotiation) → Decided a ≡ Serve n → ⊥
not_served a n e = absurd cc

-- ---- after the end
ended : (decided : LoginDecision) (decision : Decision) → ConcludesEnded decided decision → IsIn decision → ⊥
ended (decisions.LetIn login) decision it is = unshown_not_in (Token faults.Ended) decision it is
ended (decisions.GoOn bytes) decision it is = unshown_not_in (Token faults.Ended) decision it is
ended (decisions.Refused refused) decision it is = in_as decision (Refused refused) it is

-- ---- a list isn't a later message
same_head : (m n : ℕ) (a b : List ℕ) → ◌≡◌ {A = List ℕ} (m ∷ a) (n ∷ b) → m ≡ n
same_head m n a b e = cc

tags_differ : ◌≡◌ {A = ℕ} 0x60 0xa1 → ⊥
tags_differ e = omega (arith, e)

heads_differ : (bytes a b : List ℕ) → bytes ≡ 0x60 ∷ a → bytes ≡ 0xa1 ∷ b → ⊥
heads_differ bytes a b e f = tags_differ (same_head 0x60 0xa1 a b (sym e ∙ f))

not_later : (bytes : List ℕ) (listing : Listing) → IsListed listing bytes → (mechanism : Mechanism) (request : List ℕ) → IsLaterToken mechanism request bytes → ⊥
not_later bytes listing listed mechanism request token = heads_differ bytes _ _ listed.listed.framed.head.whole token.wrapped.are.chosen.head.whole

led : (check : Check) (listing : Listing) → IsListed listing check.bytes → (made : Result Checking ListFault) (decision : Decision) (new : Stage)
    → Checks check made → Leads made decision new → IsIn decision → ⊥
led check listing listed (Ok (checked.Shown login)) decision new it leads is =
    not_later check.bytes listing listed it.mechanism it.holds.request it.holds.token
led check listing listed (Ok (checked.Waits pending sent)) decision new it leads is = in_as decision (GoOn sent) leads.0 is
led check listing listed (Err fault) decision new it leads is = unshown_not_in fault decision leads.0 is

listed_by : (listing : Listing) (bytes confounder : List ℕ) (choice : ReplyOptions) (options : Options) (decided : LoginDecision) (decision : Decision) (new : Stage)
    → IsListed listing bytes → ConcludesBy listing bytes confounder choice options decided decision new → IsIn decision → ⊥
listed_by listing bytes confounder choice options (decisions.LetIn login) decision new listed it is =
    led (record {
      list = listing.list;
      bytes = bytes;
      accepted = login.accepted;
      confounder = confounder;
      choice = choice;
      options = options;
    }) listing listed it.0 decision new it.1 it.2 is
listed_by listing bytes confounder choice options (decisions.GoOn sent) decision new listed it is = in_as decision (GoOn sent) it.0 is
listed_by listing bytes confounder choice options (decisions.Refused refused) decision new listed it is = in_as decision (Refused refused) it.0 is

-- ---- after a decision
module _ (old mid new : Stage) (first decision : Decision) (bytes confounder : List ℕ) (choice : ReplyOptions) (options : Options) (after : Negotiation)
    (decided : LoginDecision) (is : IsIn decision) where
  at_end : mid ≡ Login Ended → ConcludesAt mid bytes confounder choice options after decided decision new → ⊥
  at_end same it =
      let concludes = subst (λ (s : Stage). ConcludesAt s bytes confounder choice options after decided decision new) same it in
      ended decided decision concludes.0 is

  pub over : (taken : List ℕ) → Takes taken old (Decided first) mid → (IsGoOn first → ⊥)
      → ConcludesAt mid bytes confounder choice options after decided decision new → ⊥
  over taken (takes_list listing sent before listed so writes follows) none it = none (subst IsGoOn (sym (same_decision first (GoOn sent) so)) tt)
  over taken (takes_none listing other before listed so unshown follows) none it = at_end follows it
  over taken (takes_last pending made other before ends so by follows) none it = at_end follows it
  over taken (is_passed negotiation before absent so follows) none it = not_served first negotiation so
  over taken (is_checked listing before so follows) none it = not_served first (Asked listing.mechanism) so

  pub same : Takes bytes old (Decided first) mid → ConcludesAt mid bytes confounder choice options after decided decision new → ⊥
  same (takes_list listing sent before listed so writes follows) it =
      listed_by listing bytes confounder choice options decided decision new listed
      (subst (λ (s : Stage). ConcludesAt s bytes confounder choice options after decided decision new) follows it) is
  same (takes_none listing other before listed so unshown follows) it = at_end follows it
  same (takes_last pending made other before ends so by follows) it = at_end follows it
  same (is_passed negotiation before absent so follows) it = not_served first negotiation so
  same (is_checked listing before so follows) it = not_served first (Asked listing.mechanism) so
