-- What a sender writes is a token of it.
use Rattle.std.proofs.Common.{◌≡◌, ◌∙◌, ◌<◌, ◌+◌, ◌-◌, ◌%◌, ◌/◌, ◌^◌, ℕ, zero, suc, List, [], ◌∷◌, ◌++◌, Bool, true, false, length, take, drop, refl, sym, ap, ap₂, arith, if◌then◌else◌}
use Rattle.std.specs.Prelude.{All}
use Rattle.std.specs.Int.{w16, w64, to_be_bytes, bytes_high_first, byte_at}
use Rattle.std.proofs.lemmas.List.Elements.{All-append, All-cons, All-nil}
use Rattle.std.proofs.lemmas.Nat.{mod_below}
use Rattle.std.proofs.Math.Seq.{take-length, drop-length}
use Rattle.krb_enc.specs.Key.{profile_of}
use Rattle.krb_enc.specs.Sealed.{sealed}
use Rattle.krb_context.specs.Side.{Sender, HasFlags, flags_of, seal_usage, sender_flag}
use Rattle.krb_context.specs.Mic.{IsMic, mic_token}
use Rattle.krb_context.specs.Wrap.{IsWrap, wrap_header, wrap_token, rotated, rotated_token, sealed_token}
use Rattle.krb_context.specs.declared.role.Role.{Role}
use Rattle.krb_context.specs.declared.role.Role.TheVariants.{Initiator, Acceptor}

small_flags : (side : Role) (is_sealed subkey : Bool) → sender_flag side + (if is_sealed then 2 else 0) + (if subkey then 4 else 0) < 8
small_flags Initiator is_sealed subkey = grind arith
small_flags Acceptor is_sealed subkey = grind arith

-- a sender's flags are its flags
pub own_flags : (sender : Sender) (is_sealed : Bool) → HasFlags sender is_sealed (flags_of sender is_sealed)
own_flags sender is_sealed =
    let small = small_flags sender.side is_sealed sender.acceptor_subkey in
    record { byte = omega (arith, small); known = omega (arith, small) }

pub mic_is_read : (sender : Sender) (number : ℕ) (text : List ℕ) → number < 2 ^ 64 → IsMic sender number text (mic_token sender number text)
mic_is_read sender number text fits = record { flags = flags_of sender false; has_flags = own_flags sender false; fits = fits; whole = refl }

small_byte : (place number : ℕ) → byte_at place number < 256
small_byte zero number = mod_below number 256 (omega arith)
small_byte (suc place) number = mod_below (number / 256 ^ suc place) 256 (omega arith)

number_bytes : (count number : ℕ) → All (λ byte. byte < 256) (bytes_high_first count number)
number_bytes zero number = All-nil (λ byte. byte < 256)
number_bytes (suc count) number = All-cons (λ byte. byte < 256) (byte_at count number) (bytes_high_first count number) (small_byte count number) (number_bytes count number)

-- headers are bytes
header_bytes : (flags rotation number : ℕ) → flags < 256 → All (λ byte. byte < 256) (wrap_header flags 0 rotation number)
header_bytes flags rotation number small =
    let P : ℕ → Type 0 = λ byte. byte < 256 in
    let counts : List ℕ = to_be_bytes w16 rotation ++ to_be_bytes w64 number in
    let rest : All P (to_be_bytes w16 0 ++ counts) =
    All-append P (to_be_bytes w16 0) counts (number_bytes 2 0) (All-append P (to_be_bytes w16 rotation) (to_be_bytes w64 number) (number_bytes 2 rotation) (number_bytes 8 number)) in
    All-cons P 5 (4 ∷ flags ∷ 255 ∷ (to_be_bytes w16 0 ++ counts)) (omega arith)
    (All-cons P 4 (flags ∷ 255 ∷ (to_be_bytes w16 0 ++ counts)) (omega arith)
    (All-cons P flags (255 ∷ (to_be_bytes w16 0 ++ counts)) small (All-cons P 255 (to_be_bytes w16 0 ++ counts) (omega arith) rest)))

pub not_rotated : (body : List ℕ) → rotated 0 body ≡ body
not_rotated body =
    let at : length body - 0 % length body ≡ length body = omega arith in
    ap₂ (λ (x y : List ℕ). x ++ y) (ap (λ (n : ℕ). drop n body) at ∙ drop-length body) (ap (λ (n : ℕ). take n body) at ∙ take-length body)

pub wrap_is_read : (sender : Sender) (is_sealed : Bool) (rotation : ℕ) (confounder : List ℕ) (number : ℕ) (text : List ℕ) → number < 2 ^ 64 → rotation < 2 ^ 16
    → length confounder ≡ 16 → All (λ byte. byte < 256) confounder → All (λ byte. byte < 256) text
    → IsWrap sender is_sealed number text (wrap_token sender is_sealed rotation confounder number text)
wrap_is_read sender true rotation confounder number text fits rotation_fits size confounder_bytes bytes =
    let flags : ℕ = flags_of sender true in
    let header : List ℕ = wrap_header flags 0 0 number in
    record {
      flags = flags;
      has_flags = own_flags sender true;
      fits = fits;
      rotation = rotation;
      rotation_fits = rotation_fits;
      filler = [];
      filler_fits = omega arith;
      body = sealed (profile_of sender.key) sender.key.bytes (seal_usage sender.side) confounder (text ++ header);
      opens = record {
        confounder = confounder;
        is_block = record { size = size; bytes = confounder_bytes };
        plain_bytes = All-append (λ byte. byte < 256) text header bytes (header_bytes flags 0 number (own_flags sender true).byte);
        sealed_is = refl;
      };
      whole = refl;
    }
wrap_is_read sender false rotation confounder number text fits rotation_fits size confounder_bytes bytes = record {
  flags = flags_of sender false;
  has_flags = own_flags sender false;
  fits = fits;
  rotation = 0;
  rotation_fits = omega arith;
  whole = ap (λ (b : List ℕ). wrap_header (flags_of sender false) (profile_of sender.key).tag_len 0 number ++ b) (sym (not_rotated _));
}

pub as_it_is : (sender : Sender) (confounder : List ℕ) (number : ℕ) (text : List ℕ) → rotated_token sender 0 confounder number text ≡ sealed_token sender confounder number text
as_it_is sender confounder number text = ap (λ (b : List ℕ). wrap_header (flags_of sender true) 0 0 number ++ b) (not_rotated _)
