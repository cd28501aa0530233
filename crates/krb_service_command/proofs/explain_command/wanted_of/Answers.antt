use Rattle.std.proofs.Common.{inl, inr, refl}
use Rattle.krb_file_commands.proofs.FaultLaws.{err_is}
use Rattle.krb_service_command.proofs.WordLaws.{second_read, unread_known, unread_second}
use Rattle.krb_service_command.proofs.explain_command.wanted_of.Goals as goal

pub returns-in_default-clause-words : goal.returns-in_default-clause-words
returns-in_default-clause-words g c = λ two. inl (λ skew is. let none = c.in_default.ensures.all skew is in cc, refl)

pub returns-in_err-second-clause-skew : goal.returns-in_err-second-clause-skew
returns-in_err-second-clause-skew g c = λ lacks. absurd (lacks c.in-Some.skew c.in-Some.ensures.asked)

pub returns-in_err-second-clause-known : goal.returns-in_err-second-clause-known
returns-in_err-second-clause-known g c =
    rw (err_is c.from_residual.result c.from_residual.ensures.1) (unread_known _ _ c.in_err-second.ensures.unread)

pub returns-in_err-second-clause-words : goal.returns-in_err-second-clause-words
returns-in_err-second-clause-words g c =
    rw (err_is c.from_residual.result c.from_residual.ensures.1) (λ two. inr (inl c.in_err-second.ensures.unread))

pub returns-in_err-second-clause-others : goal.returns-in_err-second-clause-others
returns-in_err-second-clause-others g c = λ lacks.
    rw (err_is c.from_residual.result c.from_residual.ensures.1) (unread_second _ _ c.in_err-second.ensures.unread)

pub returns-in_err-only-clause-skew : goal.returns-in_err-only-clause-skew
returns-in_err-only-clause-skew g c = λ lacks. absurd (lacks c.in-Some.skew c.in-Some.ensures.asked)

pub returns-in_err-only-clause-words : goal.returns-in_err-only-clause-words
returns-in_err-only-clause-words g c =
    rw (err_is c.from_residual-in_err-only.result c.from_residual-in_err-only.ensures.1) (λ two. inr (inr c.in_err-only.ensures.fault))

pub returns-in_err-bytes-clause-skew : goal.returns-in_err-bytes-clause-skew
returns-in_err-bytes-clause-skew g c = λ lacks. absurd (lacks c.in-Some.skew c.in-Some.ensures.asked)

pub returns-in_err-bytes-clause-others : goal.returns-in_err-bytes-clause-others
returns-in_err-bytes-clause-others g c = λ lacks.
    elim lacks [
      | inl unread ↦ absurd (second_read _ c.in_ok-second.second c.in_ok-second.ensures.asked unread)
      | inr none ↦ absurd (none c.in_ok-only.only c.in_ok-only.ensures.read)
    ]

pub returns-clause-skew : goal.returns-clause-skew
returns-clause-skew g c = λ lacks. absurd (lacks c.in-Some.skew c.in-Some.ensures.asked)

pub returns-clause-others : goal.returns-clause-others
returns-clause-others g c = λ lacks.
    elim lacks [
      | inl unread ↦ absurd (second_read _ c.in_ok-second.second c.in_ok-second.ensures.asked unread)
      | inr none ↦ absurd (none c.in_ok-only.only c.in_ok-only.ensures.read)
    ]
