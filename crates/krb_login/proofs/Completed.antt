-- What goes back says that a negotiation is completed only if the client is let in.
use Rattle.std.proofs.Common.{◌≡◌, ℕ, ℤ, false, List, [], ◌∷◌, Vec, Option, Some, None, sym, ◌∙◌, subst, arith}
use Rattle.std.specs.Prelude.{IfSome, IsSomeAnd}
use Rattle.std.specs.declared.alloc.Global.{Global}
use Rattle.krb_der.specs.Spells.{IsElement}
use Rattle.krb_gss.specs.declared.mechanism.Mechanism.{Mechanism}
use Rattle.krb_gss.specs.declared.opening.Wrapping.TheVariants.{Bare, Negotiated}
use Rattle.krb_gss.specs.declared.verdict.Verdict.{Verdict}
use Rattle.krb_gss.specs.declared.verdict.Verdict.TheVariants.{Completed}
use Rattle.krb_gss.specs.Answer.{error, WritesVerdict}
use Rattle.krb_gss.specs.Said.{Means, Says}
use Rattle.krb_gss.specs.Wrapping.{IsResponding}
use Rattle.krb_ap.specs.Answer.{taken_of}
use Rattle.krb_ap.specs.ErrorReply.{IsErrorReply}
use Rattle.krb_ap.specs.declared.accepted.Accepted.{Accepted}
use Rattle.krb_ap.specs.declared.refusal.Refusal.{Refusal}
use Rattle.krb_ap.specs.declared.reply.ReplyOptions.{ReplyOptions}
use Rattle.krb_name.specs.declared.principal.Principal.{Principal}
use Rattle.krb_login.specs.Carrying.{GoesBack, Says as SaysIn, completed}
use Rattle.krb_login.specs.Laws.{IsIn, IsOpen, SaysCompleted, SendsBack, at_moment, reject, by_error}
use Rattle.krb_login.specs.Login.{Call, Decides, IsAnswered}
use Rattle.krb_login.specs.Store.{IsWaiting, Settles, is_new, is_late, is_known, has_failed}
use Rattle.krb_login.specs.Waiting.{Waiting}
use Rattle.krb_login.specs.declared.carrier.Carrier.{Carrier}
use Rattle.krb_login.specs.declared.carrier.Carrier.TheVariants.{Alone, First, Later}
use Rattle.krb_login.specs.declared.decision.Decision.{Decision}
use Rattle.krb_login.specs.declared.decision.Decision.TheVariants as decisions
use Rattle.krb_login.specs.declared.decision.LetIn.{LetIn}
use Rattle.krb_login.specs.declared.store.StoreSays.{StoreSays}
use Rattle.krb_login.proofs.Following.{settled_shows, shows}
use Rattle.krb_login.proofs.Written.{state_is}

-- what says so begins as an answer of a negotiation, and has the state 0
zero_state : (first : Option Mechanism) (state : List ℕ) (name : _) → Means (Completed first) state name → state ≡ 0 ∷ []
zero_state None state name m = m.0
zero_state (Some first) state name m = m.0

head_is : (x y : ℕ) (xs ys : List ℕ) → ◌≡◌ {A = List ℕ} (x ∷ xs) (y ∷ ys) → x ≡ y
head_is x y xs ys e = cc

begins_otherwise : (tag : ℕ) (C : List ℕ → Type 0) (bytes : List ℕ) → IsElement tag C bytes → (tag ≡ 0xa1 → ⊥) → SaysCompleted bytes → ⊥
begins_otherwise tag C bytes h other s =
    other (head_is tag 0xa1 _ _ (sym h.whole ∙ s.1.said.chosen.head.whole))

other_state : (state : ℕ) (first : Option Mechanism) (After : List ℕ → Type 0) (bytes : List ℕ) → IsResponding state first After bytes → (state ≡ 0 → ⊥) → SaysCompleted bytes → ⊥
other_state state first After bytes h other s =
    other (head_is state 0 [] [] (sym (state_is state first After bytes s.1.state s.1.name h s.1.said) ∙ zero_state s.0 s.1.state.rest _ s.1.means))

two : ◌≡◌ {A = ℕ} 2 0 → ⊥
two e = omega (arith, e)

one : ◌≡◌ {A = ℕ} 1 0 → ⊥
one e = omega (arith, e)

error_tag : ◌≡◌ {A = ℕ} 0x7e 0xa1 → ⊥
error_tag e = omega (arith, e)

token_tag : ◌≡◌ {A = ℕ} 0x60 0xa1 → ⊥
token_tag e = omega (arith, e)

-- ---- what goes back if the client isn't let in
error_not : (refusal : Refusal) (now : ℤ) (service : Principal) (carrier : Carrier) (message bytes : List ℕ) → IsErrorReply refusal now service message
    → GoesBack carrier (error message) bytes → SaysCompleted bytes → ⊥
error_not refusal now service Alone message bytes is back s =
    begins_otherwise 0x7e _ message is.error.bytes_are.message.spelled error_tag (subst SaysCompleted back s)
error_not refusal now service (First Bare mechanism) message bytes is back s = begins_otherwise 0x60 _ bytes back token_tag s
error_not refusal now service (First (Negotiated first) mechanism) message bytes is back s = other_state 2 (Some first) _ bytes back two s
error_not refusal now service (Later mechanism) message bytes is back s = other_state 2 None _ bytes back two s

open_not : (call : Call) (bytes : List ℕ) → IsOpen call bytes → SaysCompleted bytes → ⊥
open_not call bytes (reject is) s = other_state 2 None _ bytes is two s
open_not call bytes (by_error carrier request asked refusal message holds asks is back) s = error_not refusal call.now asked.service carrier message bytes is back s

sent_not : (call : Call) (bytes : List ℕ) (sent : Option (Vec ℕ Global)) → IfSome sent (λ it. IsOpen call it.items) → IsSomeAnd sent (λ it. it.items ≡ bytes)
    → SaysCompleted bytes → ⊥
sent_not call bytes None is sends s = sends
sent_not call bytes (Some it) is sends s = open_not call it.items is (subst SaysCompleted (sym sends) s)

pub only_in : (call : Call) (decision : Decision) (bytes : List ℕ) → Decides call decision → SendsBack decision bytes → SaysCompleted bytes → IsIn decision
only_in call (decisions.LetIn login) bytes is sends s = tt
only_in call (decisions.GoOn sent) bytes is sends s = other_state 1 (Some is.0) _ sent.items is.1.1.1 one (subst SaysCompleted (sym sends) s)
only_in call (decisions.Refused refused) bytes is sends s = sent_not call bytes refused.answer (shows call refused is).answer sends s

-- and after a store has spoken
pub settled_in_only : (call : Call) (waiting : Waiting) (said : StoreSays) (looked : ℤ) (confounder : List ℕ) (choice : ReplyOptions) (decision : Decision)
    (bytes : List ℕ) → IsWaiting call waiting → Settles waiting said looked confounder choice decision → SendsBack decision bytes → SaysCompleted bytes → IsIn decision
settled_in_only call waiting said looked confounder choice (decisions.LetIn login) bytes is settles sends s = tt
settled_in_only call waiting said looked confounder choice (decisions.GoOn sent) bytes is (is_new e t never) sends s = never
settled_in_only call waiting said looked confounder choice (decisions.GoOn sent) bytes is (is_late e t never) sends s = never
settled_in_only call waiting said looked confounder choice (decisions.GoOn sent) bytes is (is_known e never) sends s = never
settled_in_only call waiting said looked confounder choice (decisions.GoOn sent) bytes is (has_failed e never) sends s = never
settled_in_only call waiting said looked confounder choice (decisions.Refused refused) bytes is settles sends s =
    sent_not (at_moment call looked) bytes refused.answer (settled_shows call waiting is looked said confounder choice refused settles).answer sends s

-- ---- what goes back to a client that is let in, and awaits no reply
no_answer : (bytes : List ℕ) (sent : Option (Vec ℕ Global)) → sent ≡ None → IsSomeAnd sent (λ it. it.items ≡ bytes) → SaysCompleted bytes
no_answer bytes None e sends = absurd sends
no_answer bytes (Some it) e sends = absurd cc

-- krb_gss's law: what is written for a verdict says it
module _ (read : (verdict : Verdict) (bytes : List ℕ) → WritesVerdict verdict bytes → Says verdict bytes) where
  said : (first : Option Mechanism) (bytes : List ℕ) (sent : Option (Vec ℕ Global)) → IsSomeAnd sent (λ it. WritesVerdict (Completed first) it.items)
      → IsSomeAnd sent (λ it. it.items ≡ bytes) → SaysCompleted bytes
  said first bytes None is sends = absurd sends
  said first bytes (Some it) is sends = subst SaysCompleted sends (first, read (Completed first) it.items is)

  says_in : (carrier : Carrier) (bytes : List ℕ) (sent : Option (Vec ℕ Global)) → SaysIn (completed carrier) sent → IsSomeAnd sent (λ it. it.items ≡ bytes)
      → SaysCompleted bytes
  says_in Alone bytes sent is sends = no_answer bytes sent is sends
  says_in (First Bare mechanism) bytes sent is sends = no_answer bytes sent is sends
  says_in (First (Negotiated first) mechanism) bytes sent is sends = said (Some first) bytes sent is sends
  says_in (Later mechanism) bytes sent is sends = said None bytes sent is sends

  pub says_so : (call : Call) (login : LetIn) (bytes : List ℕ) → Decides call (decisions.LetIn login) → login.accepted.mutual ≡ false
      → SendsBack (decisions.LetIn login) bytes → SaysCompleted bytes
  says_so call login bytes is silent sends = says_in is.carrier bytes login.answer (is.answered.silent silent) sends

  pub settled_says : (waiting : Waiting) (said : StoreSays) (looked : ℤ) (confounder : List ℕ) (choice : ReplyOptions) (login : LetIn) (bytes : List ℕ)
      → Settles waiting said looked confounder choice (decisions.LetIn login) → login.accepted.mutual ≡ false
      → SendsBack (decisions.LetIn login) bytes → SaysCompleted bytes
  settled_says waiting told looked confounder choice login bytes (is_new e t s) silent sends =
      says_in waiting.carrier bytes login.answer
      ((subst (λ (it : Accepted). IsAnswered waiting.carrier (taken_of it) confounder choice login.answer) (sym s.0) s.1).silent silent) sends
  settled_says waiting told looked confounder choice login bytes (is_late e t never) silent sends = absurd never
  settled_says waiting told looked confounder choice login bytes (is_known e never) silent sends = absurd never
  settled_says waiting told looked confounder choice login bytes (has_failed e never) silent sends = absurd never
