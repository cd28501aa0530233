-- What a call makes of a filled handle.
use Rattle.std.proofs.Common.{◌≡◌, subst, sym}
use Rattle.std.specs.Prelude.{Option, Some}
use Rattle.krb_c.specs.Service.{Turns}

-- it is taken out, changed and put back
pub turned : {Held : Type 0} (Empty : Type 0) (Filled : Held → Held → Type 0) {old new : Option Held} {before taken after : Held}
    → old ≡ Some before → new ≡ Some after → taken ≡ before → Filled taken after → Turns old new Empty Filled
turned Empty Filled {old} {new} {before} {taken} {after} was is same holds =
    subst (λ it. Turns it new Empty Filled) (sym was) (subst (λ it. Turns (Some before) it Empty Filled) (sym is)
    (subst (λ it. Filled it after) same holds))
