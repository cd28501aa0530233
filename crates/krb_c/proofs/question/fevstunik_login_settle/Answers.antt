use Rattle.std.proofs.Common.{◌≡◌, ◌∙◌, ℕ, ℤ, List, ap, inl, inr, subst, sym}
use Rattle.std.specs.Prelude.{Option, Some}
use Rattle.krb_time.specs.Moments.{micros_of}
use Rattle.krb_login.specs.declared.store.StoreSays.{StoreSays}
use Rattle.krb_c.specs.Service.{IsMomentOf}
use Rattle.krb_c.specs.Inner.{SettlesAt, idle, no_room, settled_at}
use Rattle.krb_c.specs.Store.{IsIdle, IsSaid, IsSettled, SettlesLogin, settled, unsettled}
use Rattle.krb_c.specs.declared.accepted_state.AcceptedState.{AcceptedState}
use Rattle.krb_c.specs.declared.login_state.LoginState.{LoginState}
use Rattle.krb_c.specs.declared.structs.Answer.{Answer}
use Rattle.krb_c.specs.declared.structs.Time.{Time}
use Rattle.krb_c.proofs.question.fevstunik_login_settle.Goals as goal

-- A call that settles nothing leaves all as it was.
left : (before after : Option LoginState) (had kept : Option AcceptedState) (state next : LoginState) (number : ℕ) (said : StoreSays) (time : Time)
    (was is : List ℕ) (answer : Answer) → before ≡ Some state → after ≡ Some next → IsSaid number said → IsMomentOf time
    → next ≡ state → kept ≡ had → is ≡ was → IsIdle (Some state) answer → SettlesLogin before after had kept number time was is answer
left before after had kept state next number said time was is answer before_is after_is says moment same k i u =
    unsettled (inr ((said, says), inr (moment, subst (λ (it : Option LoginState). IsIdle it answer) (sym before_is) u)))
    (after_is ∙ (ap Some same ∙ sym before_is)) k i

lifted : (before after : Option LoginState) (had kept : Option AcceptedState) (state next : LoginState) (number : ℕ) (said : StoreSays) (time : Time) (now : ℤ)
    (was is : List ℕ) (answer : Answer) → before ≡ Some state → after ≡ Some next → IsSaid number said → IsMomentOf time
    → now ≡ micros_of time.seconds time.micros → SettlesAt state next had kept said now was is answer
    → SettlesLogin before after had kept number time was is answer
lifted before after had kept state next number said time now was is answer before_is after_is says moment at (idle waits code same k i) =
    left before after had kept state next number said time was is answer before_is after_is says moment same k i (inl (waits, code))
lifted before after had kept state next number said time now was is answer before_is after_is says moment at (no_room waits code same k i) =
    left before after had kept state next number said time was is answer before_is after_is says moment same k i (inr (waits, code))
lifted before after had kept state next number said time now was is answer before_is after_is says moment at (settled_at question held waits kept_is decided tells) =
    settled state next question held said before_is after_is kept_is waits says moment
    (subst (λ (at : ℤ). IsSettled question said at next held) at decided) tells

pub returns : goal.returns
returns c =
    lifted _ _ _ _ c.in-Some-take.state.value _ _ c.in-Some.said _ c.in-Some-moment.now _ _ _ c.in-Some-take.ensures.taken c.put.ensures
    c.in-Some.ensures c.in-Some-moment.ensures.0 c.in-Some-moment.ensures.1
    (subst (λ (state : LoginState). SettlesAt state c.settle-answer.new.self c.args.login.now.accepted.value c.settle-answer.new.accepted.value c.in-Some.said
    c.in-Some-moment.now c.args.out.now c.settle-answer.new.out c.settle-answer.result) c.deref_mut.ensures.value c.settle-answer.ensures)
