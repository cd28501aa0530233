-- The messages' tags, that each message differs from what follows it, and how many sequence numbers it holds.
use Rattle.std.proofs.Common.{◌≡◌, ℕ, ◌≤◌, List, [], ◌∷◌, ◌++◌, refl, sym, ap, ◌∙◌, true, if◌then◌else◌, nat_eq, lit≤}
use Rattle.krb_der.specs.Kind.{Kind, ValueOf, tag_of}
use Rattle.krb_der.specs.Spells.{Spells}
use Rattle.krb_der.specs.Clear.{is_clear}
use Rattle.krb_der.specs.Numbers.{numbers_in}
use Rattle.krb_msg.specs.Module.{IsMessageKind, is_ticket, is_authenticator, is_enc_ticket_part, is_ap_req, is_ap_rep, is_enc_ap_rep_part, is_krb_error, ticket, authenticator, enc_ticket_part, ap_req, ap_rep, enc_ap_rep_part, krb_error}

-- the message with a tag
abbrev kind_with : ℕ → Kind
kind_with tag =
    if nat_eq tag 0x61 then ticket else if nat_eq tag 0x62 then authenticator else if nat_eq tag 0x63 then enc_ticket_part else
    if nat_eq tag 0x6e then ap_req else if nat_eq tag 0x6f then ap_rep else if nat_eq tag 0x7b then enc_ap_rep_part else krb_error

each : (k : Kind) → IsMessageKind k → (is_clear k ≡ true) × (numbers_in k ≤ 1) × (kind_with (tag_of k) ≡ k)
each k is_ticket = (refl, lit≤ tt, refl)
each k is_authenticator = (refl, lit≤ tt, refl)
each k is_enc_ticket_part = (refl, lit≤ tt, refl)
each k is_ap_req = (refl, lit≤ tt, refl)
each k is_ap_rep = (refl, lit≤ tt, refl)
each k is_enc_ap_rep_part = (refl, lit≤ tt, refl)
each k is_krb_error = (refl, lit≤ tt, refl)

pub clear : (k : Kind) → IsMessageKind k → is_clear k ≡ true
clear k m = (each k m).0

-- a message holds one sequence number at most
pub one_at_most : (k : Kind) → IsMessageKind k → numbers_in k ≤ 1
one_at_most k m = (each k m).1

abbrev first_or : ℕ → List ℕ → ℕ
first_or d [] = d
first_or d (b ∷ bytes) = b

-- what begins with a message begins with its tag
tag_first : (k : Kind) (v : ValueOf k) (a x : List ℕ) → Spells k v a → first_or 0 (a ++ x) ≡ tag_of k
tag_first k v a x s = ap (λ (l : List ℕ). first_or 0 (l ++ x)) s.whole

pub same_kind : (k l : Kind) → IsMessageKind k → IsMessageKind l → (v : ValueOf k) (w : ValueOf l) (a b x y : List ℕ)
    → Spells k v a → Spells l w b → a ++ x ≡ b ++ y → k ≡ l
same_kind k l m n v w a b x y s t e =
    sym (each k m).2 ∙ ap kind_with (sym (tag_first k v a x s) ∙ ap (first_or 0) e ∙ tag_first l w b y t) ∙ (each l n).2
