-- Which messages have a sequence number above 2147483647.
use Rattle.std.proofs.Common.{◌≡◌, ◌⊎◌, inl, inr, ℕ, zero, suc, ◌^◌, ◌≤◌, Option, Some, None, refl}
use Rattle.std.specs.Prelude.{IsSomeAnd}
use Rattle.krb_der.specs.Kind.{Kind, Fields, ends, must, may, each, ValueOf, FieldsOf}
use Rattle.krb_der.specs.Numbers.{numbers_in, HasHigh, HaveHigh}
use Rattle.krb_msg.specs.Module.{IsMessageKind, is_ticket, is_authenticator, is_enc_ticket_part, is_ap_req, is_ap_rep, is_enc_ap_rep_part, is_krb_error, ticket, authenticator, enc_ticket_part, ap_req, ap_rep, enc_ap_rep_part, krb_error}
use Rattle.krb_msg.specs.Fields.{authenticator_fields, reply_fields}
use Rattle.krb_msg.proofs.Sizes.{fields_of}
use Rattle.krb_msg.specs.Numbers.{HasHighNumber, of_authenticator, of_reply}

number_is : (o : Option ℕ) → IsSomeAnd o (λ n. 2 ^ 31 ≤ n) → (n : ℕ) × (o ≡ Some n) × (2 ^ 31 ≤ n)
number_is None h = absurd h
number_is (Some n) h = (n, refl, h)

-- what is left of A or B, if A stands for a part that holds so many sequence numbers
abbrev Left : ℕ → Type 0 → Type 0 → Type 0
Left zero A B = B
Left (suc n) A B = A ⊎ B

left : {A B C : Type 0} (n : ℕ) → (n ≡ 0 → A → ⊥) → (B → C) → A ⊎ B → Left n A C
left zero f g (inl a) = absurd (f refl a)
left zero f g (inr b) = g b
left (suc n) f g (inl a) = inl a
left (suc n) f g (inr b) = inr (g b)

-- the number is high that one of the fields holds; other fields aren't spoken of
abbrev OneIsHigh : (fs : Fields) → FieldsOf fs → Type 0
OneIsHigh ends v = ⊥
OneIsHigh (must k fs) v = Left (numbers_in k) (HasHigh k v.0) (OneIsHigh fs v.1)
OneIsHigh (may k fs) v = Left (numbers_in k) (IsSomeAnd v.0 (λ x. HasHigh k x)) (OneIsHigh fs v.1)
OneIsHigh (each k) v = HaveHigh (each k) v

only : {A : Type 0} → A ⊎ ⊥ → A
only (inl a) = a
only (inr b) = absurd b

module _ (none : (k : Kind) → numbers_in k ≡ 0 → (v : ValueOf k) → HasHigh k v → ⊥) where
  none_there : (k : Kind) → numbers_in k ≡ 0 → (o : Option (ValueOf k)) → IsSomeAnd o (λ x. HasHigh k x) → ⊥
  none_there k e None h = h
  none_there k e (Some x) h = none k e x h

  one_is : (fs : Fields) (v : FieldsOf fs) → HaveHigh fs v → OneIsHigh fs v
  one_is ends v h = h
  one_is (must k fs) v h = left (numbers_in k) (λ e. none k e v.0) (one_is fs v.1) h
  one_is (may k fs) v h = left (numbers_in k) (λ e. none_there k e v.0) (one_is fs v.1) h
  one_is (each k) v h = h

  pub high : (k : Kind) → IsMessageKind k → (v : ValueOf k) → HasHigh k v → HasHighNumber k v
  high k is_ticket v h = absurd (none ticket refl v h)
  high k is_authenticator v h =
      let is = number_is (authenticator_fields v).seq_number (only (one_is (fields_of authenticator) v h)) in
      of_authenticator is.0 is.1 is.2
  high k is_enc_ticket_part v h = absurd (none enc_ticket_part refl v h)
  high k is_ap_req v h = absurd (none ap_req refl v h)
  high k is_ap_rep v h = absurd (none ap_rep refl v h)
  high k is_enc_ap_rep_part v h =
      let is = number_is (reply_fields v).seq_number (only (one_is (fields_of enc_ap_rep_part) v h)) in
      of_reply is.0 is.1 is.2
  high k is_krb_error v h = absurd (none krb_error refl v h)
