-- The laws of each element without parts, a row for each.
use Rattle.std.proofs.Common.{◌≡◌, inl, inr, ℕ, ◌^◌, ◌≤◌, ℤ, pos, negsuc, ◌-ℤ◌, List, length, Option, Some, refl, sym, ap, ◌∙◌, arith, lit≤}
use Rattle.std.specs.Prelude.{FitsSigned, IfSome}
use Rattle.std.specs.Int.{w32, to_be_bytes}
use Rattle.std.proofs.lemmas.Int.{ints}
use Rattle.krb_der.specs.Content.{Content, int32, uint32, seq_number, microseconds, constant, octets, string, flags, time, Leaf, natural_leaf, bytes_leaf, leaf_of}
use Rattle.krb_der.specs.Whole.{IsInteger}
use Rattle.krb_der.specs.Computed.Steps.{◌>>?◌}
use Rattle.krb_der.specs.Computed.Whole.{whole_of, natural_below}
use Rattle.krb_der.specs.Computed.Read.{content_of}
use Rattle.krb_der.proofs.Numbers.{number_within}
use Rattle.krb_der.proofs.ContentLaws.{flags_found, flags_read, flags_unique, below_found, below_only, int32_found, int32_only, seq_number_found, seq_number_only, constant_found, constant_only}
use Rattle.krb_time.proofs.ClockLaws.{time_read, time_found}
use Rattle.krb_time.proofs.Calendar.{time_range, time_made, time_unique}
use Rattle.krb_der.proofs.ShortestLaws.{integer_be, flags_be}
use Rattle.krb_der.proofs.Sizes.{natural_sized, integer_sized, natural_unique, integer_unique}
use Rattle.krb_der.proofs.PartLaws.{IsPart, Part, plain_is}

abbrev pub leaf_part : {V : Type 0} → Leaf V → V → Part
leaf_part row v =
    record { Reads = row.Reads v; Writes = row.Writes v; Negative = row.ReadsNegative v; Fits = row.Fits v; IsHigh = row.IsHigh v; size = row.size v }

pub record IsLeaf {V : Type 0} (row : Leaf V) (read : List ℕ → Option V) : Type 0 where
  pub found : (content : List ℕ) → IfSome (read content) (λ v. row.Reads v content)
  pub only : (v : V) (content : List ℕ) → row.Reads v content → read content ≡ Some v
  pub is : (v : V) → IsPart row.numbers (leaf_part row v)

integer_made : (z : ℤ) → FitsSigned w32 z → (content : List ℕ) × (FitsSigned w32 z × IsInteger z content)
integer_made (pos n) fits = (_, (fits, integer_be (pos n) (omega (arith, ints, fits))))
integer_made (negsuc m) fits = (_, (fits, integer_be (negsuc m) (omega (arith, ints, fits))))

natural_is : (bound : ℕ) → bound ≤ 2 ^ 32 → IsLeaf (natural_leaf bound) (λ content. whole_of content >>? natural_below bound)
natural_is bound small =
    record {
      found = below_found bound;
      only = λ n content h. below_only bound n content (omega (arith, small)) h;
      is = λ n. plain_is (λ a b h k. natural_unique n a b (omega (arith, small, h.0)) h.1 k.1) (λ content h. h.0)
          (λ content h. natural_sized n content h.1 (omega (arith, small, h.0))) (λ lt. (_, (lt, integer_be (pos n) (omega (arith, ints, lt, small)))));
    }

bytes_is : (tag : ℕ) → IsLeaf (bytes_leaf tag) Some
bytes_is tag =
    record {
      found = λ content. refl;
      only = λ v content h. ap Some h;
      is = λ v. plain_is (λ a b h k. h ∙ sym k) (λ content h. tt) (λ content h. ap length h) (λ fits. (v, refl));
    }

number_part : (n : ℕ) → IsPart 1 (leaf_part (leaf_of seq_number) n)
number_part n =
    let plain = (natural_is (2 ^ 32) (lit≤ tt)).is n in
    record {
      one = plain.one;
      one_negative = λ a b h k. integer_unique (pos n -ℤ pos (2 ^ 32)) a b (omega (arith, ints, h.0, h.1)) h.2 k.2;
      fits = λ content h. elim h [ inl k ↦ k.0 | inr k ↦ k.1 ];
      sized = plain.sized;
      made = plain.made;
      written = λ content h. inl h;
      negative = λ content h. inr h;
      either = λ few content h. elim h [ inl k ↦ inl k | inr k ↦ inr (k, k.0) ];
      same = λ none content h. absurd (omega (arith, none));
      none = λ none h. omega (arith, none);
    }

pub is_leaf : (c : Content) → IsLeaf (leaf_of c) (content_of c)
is_leaf int32 =
    record {
      found = int32_found;
      only = int32_only;
      is = λ z. plain_is (λ a b h k. integer_unique z a b h.0 h.1 k.1) (λ content h. h.0) (λ content h. integer_sized z content h.1 h.0) (integer_made z);
    }
is_leaf uint32 = natural_is (2 ^ 32) (lit≤ tt)
is_leaf seq_number = record { found = seq_number_found; only = seq_number_only; is = number_part }
is_leaf microseconds = natural_is 1_000_000 (lit≤ tt)
is_leaf (constant n) =
    record { found = constant_found n; only = constant_only n; is = λ v. (natural_is (2 ^ 32) (lit≤ tt)).is n }
is_leaf octets = bytes_is 0x04
is_leaf string = bytes_is 0x1b
is_leaf flags =
    record {
      found = flags_found;
      only = flags_read;
      is = λ n. plain_is (flags_unique n)
          (λ content h. omega (arith, h.value, number_within h.bits 4 h.bytes (omega (arith, h.four)))) (λ content h. ap length h.whole ∙ omega (arith, h.four))
          (λ lt. (_, flags_be n lt (to_be_bytes w32 n) refl));
    }
is_leaf time =
    record {
      found = time_found;
      only = time_read;
      is = λ s. plain_is (time_unique s) (time_range s) (λ content h. ap length h.whole) (time_made s);
    }
