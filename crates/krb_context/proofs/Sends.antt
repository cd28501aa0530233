-- Tokens that were written to a slice.
use Rattle.std.proofs.Common.{◌≡◌, ◌∙◌, ◌<◌, ◌≤◌, ℕ, List, ◌++◌, length, take, drop, Ok, Result, inl, inr, sym, ap, ap₂, arith}
use Rattle.std.proofs.lemmas.Bool.{cases_lt}
use Rattle.std.proofs.lemmas.List.{length-append}
use Rattle.std.proofs.Math.Seq.{take-append_seam, drop-append_seam}
use Rattle.krb_enc.specs.Written.{IsWritten}
use Rattle.krb_enc.specs.declared.fault.ShortSlice.{ShortSlice}
use Rattle.krb_enc.proofs.Written.{written}
use Rattle.krb_context.specs.Wrap.{rotated}
use Rattle.krb_context.proofs.Rotations.{length-rotated}

-- bytes that are at the start of a slice
pub record AtStart (bytes old new : List ℕ) (size : ℕ) : Type 0 where
  pub size_is : size ≡ length bytes
  pub fits : length bytes ≤ length old
  pub new_is : new ≡ bytes ++ drop (length bytes) old

-- what a call wrote that reports so many bytes
pub at_start : (E : Type 0) (short_by : ℕ → E) (bytes old new : List ℕ) (result : Result ℕ E) (size : ℕ) → IsWritten E short_by bytes old new result → result ≡ Ok size
    → AtStart bytes old new size
at_start E short_by bytes old new result size w is =
    elim (cases_lt (length old) (length bytes)) [
      | inl less ↦ absurd (cc (is, (w.short less).0))
      | inr fits ↦
          let it = w.fits (omega (arith, fits)) in
          record { size_is = cc (is, it.0); fits = omega (arith, fits); new_is = it.1 }
    ]

-- a token that got another header, and in which the rest was rotated
pub rotated_written : (header header' body old mid new : List ℕ) (rotation size : ℕ) → length header ≡ 16 → length header' ≡ 16 → 0 < length body
    → AtStart (header ++ body) old mid size → new ≡ (header' ++ rotated rotation (drop 16 (take size mid))) ++ drop size mid
    → IsWritten ShortSlice (λ needed. record { needed = needed }) (header' ++ rotated rotation body) old new (Ok size)
rotated_written header header' body old mid new rotation size len len' some it is =
    let bytes : List ℕ = header ++ body in
    let front : take size mid ≡ bytes = ap₂ (λ (n : ℕ) (t : List ℕ). take n t) it.size_is it.new_is ∙ take-append_seam bytes (drop (length bytes) old) in
    let end : drop size mid ≡ drop size old =
    ap₂ (λ (n : ℕ) (t : List ℕ). drop n t) it.size_is it.new_is ∙ drop-append_seam bytes (drop (length bytes) old) ∙ ap (λ (n : ℕ). drop n old) (sym it.size_is) in
    let back : drop 16 (take size mid) ≡ body = ap (drop 16) front ∙ ap (λ (n : ℕ). drop n bytes) (sym len) ∙ drop-append_seam header body in
    let sizes : size ≡ length (header' ++ rotated rotation body) =
    omega (arith, it.size_is, length-append header body, length-append header' (rotated rotation body), length-rotated rotation body some, len, len') in
    written ShortSlice (λ needed. record { needed = needed }) (header' ++ rotated rotation body) old new size sizes (omega (arith, it.size_is, it.fits))
    (is ∙ ap₂ (λ (b e : List ℕ). (header' ++ rotated rotation b) ++ e) back end)
