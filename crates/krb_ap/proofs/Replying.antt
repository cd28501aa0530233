-- How long replies are at most, and what is written of replies and errors.
use Rattle.std.proofs.Common.{◌≡◌, ℕ, ◌<◌, ◌≤◌, ◌+◌, ℤ, List, sym, ◌∙◌, ap, subst, length, arith, lit≤, Option, Some, None, inl, inr}
use Rattle.std.specs.Prelude.{IfSome}
use Rattle.std.specs.Option.{option_map}
use Rattle.krb_name.specs.declared.principal.Principal.{Principal}
use Rattle.krb_der.specs.Kind.{ValueOf}
use Rattle.krb_der.specs.Spells.{limit}
use Rattle.krb_der.specs.Size.{size_of}
use Rattle.krb_enc.specs.Key.{KeyValue, IsUsable, profile_of}
use Rattle.krb_enc.specs.Sealed.{Profile, IsProfile, sealed}
use Rattle.krb_msg.specs.Module.{enc_ap_rep_part, encrypted_data, encryption_key, krb_error}
use Rattle.krb_msg.specs.Fields.{ap_rep_value, enc_ap_rep_part_value, bytes_of, reply_enc_part, reply_fields}
use Rattle.krb_time.specs.Moments.{micros_of}
use Rattle.krb_ap.specs.Written.{IsSealed, key_value}
use Rattle.krb_ap.specs.Taken.{Taken}
use Rattle.krb_ap.specs.Reply.{reply_for, reply_part_for}
use Rattle.krb_ap.specs.ErrorReply.{IsError, error_for}
use Rattle.krb_ap.specs.Inner.Facts.{WritingFacts}
use Rattle.krb_ap.specs.declared.reply.ReplyOptions.{ReplyOptions}
use Rattle.krb_ap.proofs.Building.{seconds_of, micros_in, unwritten}

-- ---- sizes

key_size : (key : KeyValue) → IsUsable key → length key.bytes ≤ 32
key_size key (inl h) = (let e : length key.bytes ≡ 16 = h.1 in omega arith)
key_size key (inr h) = (let e : length key.bytes ≡ 32 = h.1 in omega arith)

-- how long the part is at most, by the law on replies
abbrev pub WithoutKey : Type 0
WithoutKey = (v : ValueOf enc_ap_rep_part) → (reply_fields v).subkey ≡ None → size_of enc_ap_rep_part v ≤ 41

abbrev pub WithKey : Type 0
WithKey = (v : ValueOf enc_ap_rep_part) (key : ValueOf encryption_key) → (reply_fields v).subkey ≡ Some key → size_of enc_ap_rep_part v ≤ 82 + length (bytes_of key)

small_without : (n : ℕ) → n ≤ 41 → n ≤ 114
small_without n h = omega arith

small_with : (n m : ℕ) → n ≤ 82 + m → m ≤ 32 → n ≤ 114
small_with n m h g = omega arith

pub part_size : WithoutKey → WithKey → (v : ValueOf enc_ap_rep_part) (subkey : Option KeyValue) → (reply_fields v).subkey ≡ option_map key_value subkey
    → IfSome subkey IsUsable → size_of enc_ap_rep_part v ≤ 114
part_size without with v None e usable = small_without (size_of enc_ap_rep_part v) (without v e)
part_size without with v (Some key) e usable = small_with (size_of enc_ap_rep_part v) (length key.bytes) (with v (key_value key) e) (key_size key usable)

pub too_big : (n m : ℕ) → limit < n → n ≤ m → m ≤ 1_000 → ⊥
too_big n m h g f = omega arith

pub reply_small : (n m k lent p : ℕ) → limit < n → n ≤ 64 + m → m ≡ k → k ≤ 40 + lent → lent ≡ p → p ≤ 114 → ⊥
reply_small n m k lent p h g e f d b = omega arith

tag_size : (p : Profile) → IsProfile p → p.tag_len ≤ 24
tag_size p (inl e) = subst (λ (q : Profile). q.tag_len ≤ 24) (sym e) (lit≤ tt)
tag_size p (inr e) = subst (λ (q : Profile). q.tag_len ≤ 24) (sym e) (lit≤ tt)

sum_of : (n m t : ℕ) → n ≡ 16 + m + t → t ≤ 24 → n ≤ 40 + m
sum_of n m t h g = omega arith

pub sealed_size : ((p : Profile) (key : List ℕ) (usage : ℕ) (confounder plain : List ℕ) → IsProfile p → length confounder ≡ 16
    → length (sealed p key usage confounder plain) ≡ 16 + length plain + p.tag_len)
    → ((key : KeyValue) → IsProfile (profile_of key)) → (key : KeyValue) (usage : ℕ) (confounder plain text : List ℕ)
    → IsSealed key usage confounder plain text → length text ≤ 40 + length plain
sealed_size lengths known key usage confounder plain text s =
    sum_of (length text) (length plain) (profile_of key).tag_len
    (ap length s.text_is ∙ lengths (profile_of key) key.bytes usage confounder plain (known key) s.size)
    (tag_size (profile_of key) (known key))

-- ---- the values that are written, as copies

pub copied_part : (taken : Taken) (options : ReplyOptions) (subkey : Option (ValueOf encryption_key)) → subkey ≡ option_map key_value options.subkey
    → enc_ap_rep_part_value (record { ctime = taken.ctime; cusec = taken.cusec; subkey = subkey; seq_number = options.seq }) ≡ reply_part_for taken options
copied_part taken options subkey e = rw e

pub copied_reply : (key : KeyValue) (text : List ℕ) (told : ValueOf encrypted_data) → told ≡ reply_enc_part (reply_for key text)
    → ap_rep_value told ≡ reply_for key text
copied_reply key text told e = ap ap_rep_value e

-- ---- an error that is too long

same_error : (code : ℤ) (service : Principal) (s t : ℤ) (m n : ℕ) → m < 1_000_000 → n < 1_000_000 → micros_of s m ≡ micros_of t n
    → error_for s m code service ≡ error_for t n code service
same_error code service s t m n h g e = rw (seconds_of s t m n h g e, micros_in s t m n h g e)

pub untold_error : WritingFacts → (code now : ℤ) (service : Principal) (stime : ℤ) (susec : ℕ) → now ≡ micros_of stime susec → susec < 1_000_000
    → limit < size_of krb_error (error_for stime susec code service) → (bytes : List ℕ) → ¬ IsError code now service bytes
untold_error w code now service stime susec is micros long bytes b = unwritten w krb_error (error_for b.stime b.susec code service) bytes
    (subst (λ (v : ValueOf krb_error). limit < size_of krb_error v)
    (same_error code service stime b.stime susec b.susec micros b.micros (sym is ∙ b.now_is)) long)
    b.bytes_are
