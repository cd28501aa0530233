-- What reading gives exactly where something stands, else a fault by the rules; and one step of it after another.
use Rattle.std.proofs.Common.{◌≡◌, Result, Ok, Err, refl, ap, subst, ◌∙◌}
use Rattle.std.specs.Prelude.{IfOk, IfErr}
use Rattle.krb_der.specs.Computed.Steps.{◌>>=◌}

pub record Reads {V E : Type 0} (r : Result V E) (Is : V → Type 0) (IsFault : E → Type 0) : Type 0 where
  pub found : IfOk r Is
  pub only : (v : V) → Is v → r ≡ Ok v
  pub faulty : IfErr r IsFault

-- said in other words
pub reads-as : {V E : Type 0} {Is Other : V → Type 0} {IsFault OtherFault : E → Type 0} (r : Result V E) → Reads r Is IsFault → ((v : V) → Is v → Other v)
    → ((v : V) → Other v → Is v) → ((e : E) → IsFault e → OtherFault e) → Reads r Other OtherFault
reads-as (Ok v) h to from faults = record { found = to v h.found; only = λ w k. h.only w (from w k); faulty = tt }
reads-as (Err e) h to from faults = record { found = tt; only = λ w k. h.only w (from w k); faulty = faults e h.faulty }

-- something made of what is found
pub reads-made : {V W E : Type 0} {Is : V → Type 0} {Whole : W → Type 0} {IsFault WholeFault : E → Type 0} (made : V → W) (r : Result V E) → Reads r Is IsFault → ((v : V) → Is v → Whole (made v))
    → ((w : W) → Whole w → (v : V) × Is v × (made v ≡ w)) → ((e : E) → IsFault e → WholeFault e) → Reads (r >>= λ v. Ok (made v)) Whole WholeFault
reads-made {V = V} {W = W} {E = E} {Is = Is} {Whole = Whole} {IsFault = IsFault} {WholeFault = WholeFault} made r h join split faults =
    record { found = (by r h.found h.faulty).0; only = λ w k. let s = split w k in ap (λ (x : Result V E). x >>= λ v. Ok (made v)) (h.only s.0 s.1) ∙ ap Ok s.2; faulty = (by r h.found h.faulty).1 }
  where
    by : (s : Result V E) → IfOk s Is → IfErr s IsFault → IfOk (s >>= λ v. Ok (made v)) Whole × IfErr (s >>= λ v. Ok (made v)) WholeFault
    by (Ok v) is f = (join v is, tt)
    by (Err e) is f = (tt, faults e f)

-- one step after another
pub reads-then : {V W E : Type 0} {Is : V → Type 0} {Next : V → W → Type 0} {Whole : W → Type 0} {IsFault WholeFault : E → Type 0} {NextFault : V → E → Type 0} (r : Result V E)
    (next : V → Result W E) → Reads r Is IsFault → ((v : V) → Is v → Reads (next v) (Next v) (NextFault v)) → ((v : V) (w : W) → Is v → Next v w → Whole w)
    → ((w : W) → Whole w → (v : V) × Is v × Next v w) → ((e : E) → IsFault e → WholeFault e) → ((v : V) (e : E) → Is v → NextFault v e → WholeFault e)
    → Reads (r >>= next) Whole WholeFault
reads-then {V = V} {W = W} {E = E} {Is = Is} {Next = Next} {Whole = Whole} {IsFault = IsFault} {WholeFault = WholeFault} {NextFault = NextFault} r next h n join split faults later =
    record {
      found = (by r h.found h.faulty).0;
      only = λ w k. let s = split w k in ap (λ (x : Result V E). x >>= next) (h.only s.0 s.1) ∙ (n s.0 s.1).only w s.2;
      faulty = (by r h.found h.faulty).1;
    }
  where
    whole : (v : V) → Is v → (s : Result W E) → IfOk s (Next v) → IfErr s (NextFault v) → IfOk s Whole × IfErr s WholeFault
    whole v is (Ok w) next f = (join v w is next, tt)
    whole v is (Err e) next f = (tt, later v e is f)

    by : (s : Result V E) → IfOk s Is → IfErr s IsFault → IfOk (s >>= next) Whole × IfErr (s >>= next) WholeFault
    by (Ok v) is f = whole v is (next v) (n v is).found (n v is).faulty
    by (Err e) is f = (tt, faults e f)

-- one step and then another, and something made of both
pub reads-both : {V U W E : Type 0} {Is : V → Type 0} {Next : V → U → Type 0} {Whole : W → Type 0} {IsFault WholeFault : E → Type 0} {NextFault : V → E → Type 0} (made : V → U → W) (r : Result V E)
    (next : V → Result U E) → Reads r Is IsFault → ((v : V) → Is v → Reads (next v) (Next v) (NextFault v)) → ((v : V) (u : U) → Is v → Next v u → Whole (made v u))
    → ((w : W) → Whole w → (v : V) × (u : U) × Is v × Next v u × (made v u ≡ w)) → ((e : E) → IsFault e → WholeFault e) → ((v : V) (e : E) → Is v → NextFault v e → WholeFault e)
    → Reads (r >>= λ v. next v >>= λ u. Ok (made v u)) Whole WholeFault
reads-both {U = U} {Next = Next} {Whole = Whole} made r next h n join split faults later =
    reads-then {Next = λ v w. (u : U) × Next v u × (made v u ≡ w)} r _ h
    (λ v is. reads-made (made v) (next v) (n v is) (λ u k. (u, k, refl)) (λ w k. k) (λ e f. f))
    (λ v w is k. subst Whole k.2 (join v k.0 is k.1)) (λ w k. let s = split w k in (s.0, s.2, (s.1, s.3, s.4))) faults later
