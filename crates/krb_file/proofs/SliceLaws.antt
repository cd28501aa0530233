-- Bytes in memory that are taken piece by piece.
use Rattle.std.proofs.Common.{◌≡◌, ℕ, ◌+◌, ◌-◌, ◌≤◌, ◌==◌, Bool, true, false, List, ◌++◌, length, take, drop, Some, Ok, refl, sym, ap, ◌∙◌, arith}
use Rattle.std.specs.Prelude.{min, max}
use lib.Seq.{take-add}
use Rattle.std.proofs.lemmas.Bool.{eqb-true, eqb-false}
use Rattle.std.proofs.lemmas.List.{length-take, length-drop, drop-drop, take-append-drop, nil_from_length}
use Rattle.krb_file.specs.Window.{AtHand, CameOf, Fills}
use Rattle.krb_file.specs.Hand.{slice_hand}
use Rattle.krb_file.specs.declared.reading.ReadFault.{ReadFault}

-- a slice, as its fields say it
abbrev pub slice_of : List ℕ → ℕ → ℕ → ℕ → AtHand (List ℕ)
slice_of bytes held peak given = record { source = drop held bytes; bytes = take held bytes; peak = peak; given = given }

came_of : (all : Bool) (count came : ℕ) (piece : List ℕ) (rest : List ℕ) → (came == count) ≡ all → came ≡ length piece → came ≡ min count (length piece + length rest) → CameOf {E = ReadFault} (Ok all) count piece (Some rest)
came_of true count came piece rest all is least = let same = eqb-true came count all in omega (arith, same, is)
came_of false count came piece rest all is least = let other = eqb-false came count all in (omega (arith, other, is, least), nil_from_length rest (omega (arith, other, is, least)))

pub fills : (bytes : List ℕ) (held peak given count came : ℕ) → held ≤ length bytes → came ≡ min count (length bytes - held)
    → Fills (Some (drop held bytes)) (Some (drop (held + came) bytes)) (slice_hand (slice_of bytes held peak given)) (slice_hand (slice_of bytes (held + came) (max peak (held + came)) (given + came))) count (Ok (came == count))
fills bytes held peak given count came within least =
    let piece : List ℕ = take came (drop held bytes) in
    let size : length piece ≡ came = omega (arith, length-take came (drop held bytes), length-drop held bytes, within, least) in
    record {
      piece = piece;
      keeps = record {
        consumed = sym (take-append-drop came (drop held bytes)) ∙ ap (λ (t : List ℕ). piece ++ t) (drop-drop came held bytes);
        bytes = take-add held came bytes;
        peak = omega (arith, length-take (held + came) bytes, within, least);
        given = omega (arith, size);
      };
      came = came_of (came == count) count came piece (drop (held + came) bytes) refl (sym size) (omega (arith, size, length-drop (held + came) bytes, within, least));
    }
