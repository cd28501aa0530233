-- What is written to a buffer is handed out there.
use Rattle.std.proofs.Common.{◌≡◌, ◌∙◌, ℕ, List, length, Ok, Err, ap}
use Rattle.krb_enc.specs.declared.fault.OpenToFault.{OpenToFault}
use Rattle.krb_enc.specs.declared.fault.OpenToFault.TheVariants.{ShortSlice}
use Rattle.krb_enc.specs.Written.{IsWritten}
use Rattle.krb_c.specs.Answer.{Hands, sized}
use Rattle.krb_c.specs.Codes.{ok, short_buffer}
use Rattle.krb_c.specs.declared.structs.Answer.{Answer}

pub handed : (bytes old new : List ℕ) (size : ℕ) (answer : Answer) → IsWritten OpenToFault (λ needed. ShortSlice needed) bytes old new (Ok size) → answer ≡ sized ok size
    → Hands bytes old new answer
handed bytes old new size answer written is = record {
  fits = λ fits.
      let ended = written.fits fits in
      let same : size ≡ length bytes = cc (ended.0) in (is ∙ ap (sized ok) same, ended.1);
  short = λ less.
      let other = (written.short less).0 in
      absurd (cc other);
}

pub not_handed : (bytes old new : List ℕ) (needed : ℕ) (answer : Answer) → IsWritten OpenToFault (λ needed. ShortSlice needed) bytes old new (Err (ShortSlice needed)) → answer ≡ sized short_buffer needed
    → Hands bytes old new answer
not_handed bytes old new needed answer written is = record {
  fits = λ fits.
      let other = (written.fits fits).0 in
      absurd (cc other);
  short = λ less.
      let ended = written.short less in
      let same : needed ≡ length bytes = cc (ended.0) in (is ∙ ap (sized short_buffer) same, ended.1);
}
