-- Results one after another, as by the operator ? in the code.
use Rattle.std.specs.Prelude.{Option, Some, None, Result, Ok, Err, Bool, if◌then◌else◌}

infixl 10 ◌>>=◌
abbrev pub ◌>>=◌ : {A B E : Type 0} → Result A E → (A → Result B E) → Result B E
(Ok x) >>= f = f x
(Err e) >>= f = Err e

infixl 10 ◌>>?◌
abbrev pub ◌>>?◌ : {A B : Type 0} → Option A → (A → Option B) → Option B
(Some x) >>? f = f x
None >>? f = None

abbrev pub only_if : {A : Type 0} → Bool → A → Option A
only_if b x = if b then Some x else None
