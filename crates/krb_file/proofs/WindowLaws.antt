-- Bytes that come piece by piece, and are at hand or passed over.
use Rattle.std.proofs.Common.{◌≡◌, ℕ, ◌+◌, ◌-◌, ◌≤◌, List, ◌++◌, length, take, Option, Result, Ok, ap, ◌∙◌, append_assoc, arith}
use Rattle.std.specs.Prelude.{max}
use Rattle.std.proofs.lemmas.List.{length-append, length-take, take-take, take-append-le}
use Rattle.std.proofs.Math.Seq.{take-append-add}
use Rattle.std.proofs.KnownBytes.{Consumes-trans}
use Rattle.krb_file.specs.Flow.{counted}
use Rattle.krb_file.specs.Window.{AtHand, Keeps, Skips}
use Rattle.krb_file.specs.Inner.Window.{ComesOnce, ComesSoFar}

pub skips_more : {S : Type 0} (a b c : Option (List ℕ)) (old mid new : AtHand S) (p q : List ℕ) → Skips a b old mid p → Skips b c mid new q → Skips a c old new (p ++ q)
skips_more a b c old mid new p q f s = record {
  consumed = Consumes-trans a b c p q f.consumed s.consumed;
  bytes = s.bytes ∙ f.bytes;
  peak = s.peak ∙ f.peak;
  given = omega (arith, f.given, s.given, length-append p q);
}

higher : (peak mid new low high : ℕ) → low ≤ high → mid ≡ max peak low → new ≡ max mid high → new ≡ max peak high
higher peak mid new low high h m n = omega (arith, h, m, n)

pub keeps_more : {S : Type 0} (a b c : Option (List ℕ)) (old mid new : AtHand S) (p q : List ℕ) → Keeps a b old mid p → Keeps b c mid new q → Keeps a c old new (p ++ q)
keeps_more a b c old mid new p q f s = record {
  consumed = Consumes-trans a b c p q f.consumed s.consumed;
  bytes = s.bytes ∙ ap (λ (t : List ℕ). t ++ q) f.bytes ∙ append_assoc old.bytes p q;
  peak = higher old.peak mid.peak new.peak (length mid.bytes) (length new.bytes) (omega (arith, ap length s.bytes, length-append mid.bytes q)) f.peak s.peak;
  given = omega (arith, f.given, s.given, length-append p q);
}

abbrev ok_of : (E : Type 0) → ℕ → Result ℕ E
ok_of E came = Ok came

pub one_more : {S E : Type 0} (Comes : Option (List ℕ) → Option (List ℕ) → AtHand S → AtHand S → List ℕ → Type 0)
    → ((a b c : Option (List ℕ)) (old mid new : AtHand S) (p q : List ℕ) → Comes a b old mid p → Comes b c mid new q → Comes a c old new (p ++ q))
    → (remaining : S → Option (List ℕ)) (failure_count lender : S → ℕ) (old mid new : AtHand S) (count left came : ℕ)
    → ComesSoFar Comes remaining failure_count lender old mid count left → ComesOnce Comes (remaining mid.source) (remaining new.source) mid new left (ok_of E came)
    → failure_count new.source ≡ counted (failure_count mid.source) 0 → lender new.source ≡ lender mid.source → ComesSoFar Comes remaining failure_count lender old new count (left - came)
one_more Comes join remaining failure_count lender old mid new count left came first second failed lent = record {
  piece = first.piece ++ second.piece;
  comes = join _ _ _ _ _ _ first.piece second.piece first.comes second.comes;
  counted = omega (arith, first.counted, second.one.0, second.one.1, length-append first.piece second.piece);
  unfailed = omega (arith, failed, first.unfailed);
  lent = lent ∙ first.lent;
}

-- ---- one read into the room after the bytes at hand

-- what was there, and then what came
pub came_at : (old front buffer tail rest : List ℕ) (at room came : ℕ) → at ≤ length old → front ≡ take at old → came ≤ length buffer → at + came ≤ room
    → take (at + came) (take room ((front ++ (buffer ++ tail)) ++ rest)) ≡ take at old ++ take came buffer
came_at old front buffer tail rest at room came a f some fits =
    let held = take at old in
    let count : at ≡ length held = omega (arith, length-take at old) in
    let parts : (front ++ (buffer ++ tail)) ++ rest ≡ held ++ (buffer ++ (tail ++ rest)) =
    append_assoc front (buffer ++ tail) rest ∙ ap (λ (t : List ℕ). t ++ ((buffer ++ tail) ++ rest)) f ∙ ap (λ (t : List ℕ). held ++ t) (append_assoc buffer tail rest) in
    take-take (at + came) room ((front ++ (buffer ++ tail)) ++ rest) fits
    ∙ ap (take (at + came)) parts
    ∙ ap (λ (n : ℕ). take (n + came) (held ++ (buffer ++ (tail ++ rest)))) count
    ∙ take-append-add held (buffer ++ (tail ++ rest)) came
    ∙ ap (λ (t : List ℕ). held ++ t) (take-append-le came buffer (tail ++ rest) some)

pub came_within : (old front buffer tail rest : List ℕ) (at room came : ℕ) → at ≤ length old → front ≡ take at old → came ≤ length buffer → at + came ≤ room
    → at + came ≤ length (take room ((front ++ (buffer ++ tail)) ++ rest))
came_within old front buffer tail rest at room came a f some fits = simp (length-take, length-append) (omega (arith, ap length f, length-take at old))
