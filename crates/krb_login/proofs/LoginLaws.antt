-- What goes back to a client that is refused.
use Rattle.std.proofs.Common.{◌≡◌, ◌≢◌, true, false, ℕ, ℤ, List, Option, Some, None, Vec, Result, Ok, Err, Bool, is_some, refl, inl, inr, sym, ◌∙◌, subst}
use Rattle.std.specs.Prelude.{IfErr, IfOk, IfSome, IsErrOf, IsSomeAnd}
use Rattle.std.specs.Option.{MatchOption}
use Rattle.std.specs.declared.alloc.Global.{Global}
use Rattle.krb_gss.specs.Answer.{error, WritesVerdict}
use Rattle.krb_gss.specs.declared.verdict.Verdict.{Verdict}
use Rattle.krb_ap.specs.ErrorReply.{IsErrorReply}
use Rattle.krb_ap.specs.declared.refusal.Refusal.{Refusal}
use Rattle.krb_login.specs.Asked.{Asks, AsksNothing, AsksSomething}
use Rattle.krb_login.specs.Carrying.{GoesBack, Says, rejected}
use Rattle.krb_login.specs.Inner.{Awaits, IsSentSo}
use Rattle.krb_login.specs.Login.{IsDue, IsErrorLong, IsNothingDue, IsRefusalOf, IsRefusedSo, IsUnsentSo, by_error, by_reject, silent, unread, unread_alone}
use Rattle.krb_login.specs.declared.asked.Asked.{Asked}
use Rattle.krb_login.specs.declared.carrier.Carrier.{Carrier}
use Rattle.krb_login.specs.declared.cause.Cause.{Cause}
use Rattle.krb_login.specs.declared.decision.Unsent.{Unsent}
use Rattle.krb_login.specs.declared.decision.Unsent.TheVariants.{TooLong, OutOfMemory}

not_long : ◌≡◌ {A = Unsent} TooLong OutOfMemory → ⊥
not_long e = absurd cc

abbrev Sent : Type 0
Sent = Result (Option (Vec ℕ Global)) Unsent

module _ (now : ℤ) (carrier : Carrier) (request : List ℕ) (refusal : Refusal) where
  -- an error, to a client that awaits a reply
  pub errors : (asked : Asked) (sent : Sent) → Asks request asked → asked.wants_reply ≡ true
      → IfOk sent (λ it. IsSomeAnd it (λ bytes. (message : List ℕ) × (IsErrorReply refusal now asked.service message × GoesBack carrier (error message) bytes.items)))
      → (IsErrOf sent TooLong → IsErrorLong refusal now carrier asked.service) → IsSentSo now carrier request refusal (Some asked) sent
  errors asked (Ok None) asks wants it long = absurd it
  errors asked (Ok (Some bytes)) asks wants it long = by_error asked it.0 asks wants it.1.0 it.1.1
  errors asked (Err TooLong) asks wants it long = (asked, (refl, (wants, long refl)))
  errors asked (Err OutOfMemory) asks wants it long = inl (asked, (asks, wants))

  -- a reject in a negotiation, if one is due
  said_if : (verdict : Option Verdict) (said : Option Asked) (sent : Option (Vec ℕ Global)) → Says verdict sent
      → ((bytes : Vec ℕ Global) → IsSomeAnd verdict (λ it. WritesVerdict it bytes.items) → IsRefusalOf now carrier request refusal bytes.items)
      → (verdict ≡ None → IsNothingDue carrier request) → IsSentSo now carrier request refusal said (Ok sent)
  said_if None said None is writes nothing = nothing refl
  said_if None said (Some bytes) is writes nothing = absurd cc
  said_if (Some verdict) said None is writes nothing = absurd is
  said_if (Some verdict) said (Some bytes) is writes nothing = writes bytes is

  rejects_if : (said : Option Asked) (sent : Sent) → IfOk sent (Says (rejected carrier)) → IfErr sent (λ why. (why ≡ OutOfMemory) × (rejected carrier ≢ None))
      → ((bytes : Vec ℕ Global) → IsSomeAnd (rejected carrier) (λ it. WritesVerdict it bytes.items) → IsRefusalOf now carrier request refusal bytes.items)
      → (rejected carrier ≡ None → IsNothingDue carrier request) → IsSentSo now carrier request refusal said sent
  rejects_if said (Ok sent) is memory writes nothing = said_if (rejected carrier) said sent is writes nothing
  rejects_if said (Err TooLong) is memory writes nothing = absurd (not_long memory.0)
  rejects_if said (Err OutOfMemory) is memory writes nothing = inr memory.1

  -- to a client that awaits no reply
  pub rejects : (asked : Asked) (sent : Sent) → Asks request asked → asked.wants_reply ≡ false
      → IfOk sent (Says (rejected carrier)) → IfErr sent (λ why. (why ≡ OutOfMemory) × (rejected carrier ≢ None))
      → IsSentSo now carrier request refusal (Some asked) sent
  rejects asked sent asks silently it memory =
      rejects_if (Some asked) sent it memory (λ bytes is. by_reject asked asks silently is) (λ none. silent asked asks silently none)

  -- and to bytes that aren't a request
  pub rejects_unread : (sent : Sent) → AsksNothing request
      → IfOk sent (Says (rejected carrier)) → IfErr sent (λ why. (why ≡ OutOfMemory) × (rejected carrier ≢ None))
      → IsSentSo now carrier request refusal None sent
  rejects_unread sent nothing it memory =
      rejects_if None sent it memory (λ bytes is. unread nothing is) (λ none. unread_alone nothing none)

  -- ---- what is said of a refusal, with bytes that go back or without
  answer_if : (said : Option Asked) (answer : Option (Vec ℕ Global)) → IsSentSo now carrier request refusal said (Ok answer)
      → IfSome answer (λ bytes. IsRefusalOf now carrier request refusal bytes.items)
  answer_if said None is = tt
  answer_if said (Some bytes) is = is

  due_if : (said : Option Asked) (answer : Option (Vec ℕ Global)) → IsSentSo now carrier request refusal said (Ok answer) → answer ≡ None → IsNothingDue carrier request
  due_if said None is none = is
  due_if said (Some bytes) is none = absurd cc

  unread_if : (asked : Option Asked) → MatchOption asked (AsksNothing request) (Asks request) → asked ≡ None → AsksNothing request
  unread_if None it none = it
  unread_if (Some asked) it none = absurd cc

  asked_if : (asked : Option Asked) → MatchOption asked (AsksNothing request) (Asks request) → IfSome asked (Asks request)
  asked_if None it = tt
  asked_if (Some asked) it = it

  pub says_so : (cause : Cause) (asked : Option Asked) (answer : Option (Vec ℕ Global)) → MatchOption asked (AsksNothing request) (Asks request)
      → IsSentSo now carrier request refusal asked (Ok answer)
      → IsRefusedSo now carrier request refusal (record { cause = cause; asked = asked; answer = answer; unsent = None })
  says_so cause asked answer it is = record {
    asked = asked_if asked it;
    read = λ none. inl (unread_if asked it none);
    answer = answer_if asked answer is;
    due = λ none _. due_if asked answer is none;
    unsent = tt;
  }

  -- ---- and without memory for what is due
  pub lacks : (cause : Cause) (asked : Option Asked) (why : Unsent) → MatchOption asked (AsksNothing request) (Asks request)
      → IsUnsentSo now carrier request refusal asked why
      → IsRefusedSo now carrier request refusal (record { cause = cause; asked = asked; answer = None; unsent = Some why })
  lacks cause asked why it is = record {
    asked = asked_if asked it;
    read = λ none. inl (unread_if asked it none);
    answer = tt;
    due = λ none some. absurd cc;
    unsent = (is, refl);
  }

  -- for a request that doesn't show what it asks for
  pub some_lacks : (cause : Cause) (said : Option Unsent) → said ≡ Some OutOfMemory → AsksSomething request → IsDue carrier request
      → IsRefusedSo now carrier request refusal (record { cause = cause; asked = None; answer = None; unsent = said })
  some_lacks cause said e asks due =
      subst (λ (it : Option Unsent). IsRefusedSo now carrier request refusal (record { cause = cause; asked = None; answer = None; unsent = it })) (sym e)
      (record { asked = tt; read = λ _. inr (asks, refl); answer = tt; due = λ _ some. absurd cc; unsent = (due, refl) })

  pub none_lacks : (cause : Cause) (said : Option Unsent) → said ≡ None → AsksSomething request → IsNothingDue carrier request
      → IsRefusedSo now carrier request refusal (record { cause = cause; asked = None; answer = None; unsent = said })
  none_lacks cause said e asks none =
      subst (λ (it : Option Unsent). IsRefusedSo now carrier request refusal (record { cause = cause; asked = None; answer = None; unsent = it })) (sym e)
      (record { asked = tt; read = λ _. inr (asks, refl); answer = tt; due = λ _ _. none; unsent = tt })

-- ---- what is due
not_nothing : (request : List ℕ) → AsksSomething request → AsksNothing request → ⊥
not_nothing request asks nothing = nothing asks.0 asks.1

pub due_if_awaited : (carrier : Carrier) (request : List ℕ) → Awaits request true → AsksSomething request → IsDue carrier request
due_if_awaited carrier request (inl nothing) asks = absurd (not_nothing request asks nothing)
due_if_awaited carrier request (inr it) asks = inl it

pub none_due : (carrier : Carrier) (request : List ℕ) → Awaits request false → rejected carrier ≡ None → AsksSomething request → IsNothingDue carrier request
none_due carrier request (inl nothing) none asks = absurd (not_nothing request asks nothing)
none_due carrier request (inr it) none asks = silent it.0 it.1.0 it.1.1 none

-- ---- what is said of what a request asks for
pub is_some_asked : (request : List ℕ) (asked : Option Asked) → IsSomeAnd asked (Asks request) → MatchOption asked (AsksNothing request) (Asks request)
is_some_asked request None is = absurd is
is_some_asked request (Some asked) is = is

pub not_none : (request : List ℕ) (said asked : Option Asked) → said ≡ asked → IsSomeAnd asked (Asks request) → said ≡ None → ⊥
not_none request said None e is none = is
not_none request said (Some asked) e is none = absurd cc

is_some_verdict : (verdict : Option Verdict) → is_some verdict ≡ true → verdict ≡ None → ⊥
is_some_verdict None some none = absurd cc
is_some_verdict (Some verdict) some none = absurd cc

is_no_verdict : (verdict : Option Verdict) → is_some verdict ≡ false → verdict ≡ None
is_no_verdict None none = refl
is_no_verdict (Some verdict) none = absurd cc

-- whether a reject is due, by what a carrier says
pub is_rejected : (carrier : Carrier) (verdict : Option Verdict) (some : Bool) → verdict ≡ rejected carrier → some ≡ is_some verdict → some ≡ true
    → rejected carrier ≢ None
is_rejected carrier verdict some e is set = λ none. is_some_verdict verdict (sym is ∙ set) (e ∙ none)

pub not_rejected : (carrier : Carrier) (verdict : Option Verdict) (some : Bool) → verdict ≡ rejected carrier → some ≡ is_some verdict → some ≡ false
    → rejected carrier ≡ None
not_rejected carrier verdict some e is unset = sym e ∙ is_no_verdict verdict (sym is ∙ unset)
