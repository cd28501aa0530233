-- Decryption under way: from the block whose form is kept, what is left to do gives InvCipher of the block.
use Rattle.std.proofs.Common.{◌≡◌, ℕ, ◌+◌, ◌-◌, ◌%◌, ◌<◌, ◌≤◌, List, map, sym, ap, ◌∙◌, arith}
use Rattle.krb_aes.specs.State.{inv_sub_bytes, inv_shift_rows, inv_mix_columns, add_round_key}
use Rattle.krb_aes.specs.KeyExpansion.{IsKey, key_expansion, round_count, round_key}
use Rattle.krb_aes.specs.Cipher.{IsBlock, inv_rounds, inv_cipher}
use Rattle.krb_aes.specs.Inner.Schedule.{kept, inv_form_of_key, inv_round_key}
use Rattle.krb_aes.specs.Inner.Tower.{inv_form}
use Rattle.krb_aes.proofs.Bytes.{AreBytes, round_key_bytes}
use Rattle.krb_aes.proofs.ExpansionRules.{rounds_of_four}
use Rattle.krb_aes.proofs.LaneRounds.{kept_none}
use Rattle.krb_aes.proofs.RoundRules.{inv_rounds_before}
use Rattle.krb_aes.proofs.StateLaws.{IsBlock-add_round_key, IsBlock-inv_mix_columns, IsBlock-restored}

-- rounds at - 1 down to 1, and the last, are left to do from a state
pub record IsUnderWay (key block form : List ℕ) (at : ℕ) : Type 0 where
  pub some : 1 ≤ at
  pub state : List ℕ
  pub is_block : IsBlock state
  pub has_form : form ≡ map inv_form (kept ((at + 2) % 4) state)
  pub left : inv_rounds (round_key (key_expansion key)) (at - 1) state ≡ inv_cipher key block

pub begun : (key block form first : List ℕ) (last : ℕ) → IsKey key → IsBlock block → last ≡ round_count key →
    first ≡ round_key (key_expansion key) last → form ≡ map inv_form (add_round_key block first) → IsUnderWay key block form last
unfolding inv_cipher
begun key block form first last is_key is_block count first_is form_is =
    let k = round_key (key_expansion key) in
    let state = add_round_key block (k last) in
    let is = IsBlock-add_round_key block (k last) is_block (round_key_bytes key last is_key.bytes) in
    let none : 0 ≡ (last + 2) % 4 = omega (arith, rounds_of_four key is_key, count) in
    record {
      some = omega (arith, count);
      state = state;
      is_block = is;
      has_form = form_is ∙ ap (λ t. map inv_form (add_round_key block t)) first_is
          ∙ ap (map inv_form) (sym (kept_none state is) ∙ ap (λ n. kept n state) none);
      left = ap (λ n. inv_rounds k (n - 1) (add_round_key block (k n))) count;
    }

-- what a round of the inverse cipher does
abbrev pub Turns : ℕ → List ℕ → List ℕ → List ℕ → Type 0
Turns n form key next =
    (block round_key : List ℕ) → IsBlock block → AreBytes round_key → form ≡ map inv_form (kept ((n + 1) % 4) block) →
    key ≡ inv_form_of_key n round_key →
    next ≡ map inv_form (kept n (inv_mix_columns (add_round_key (inv_sub_bytes (inv_shift_rows block)) round_key)))

pub gone_on : (key block form next turned : List ℕ) (at : ℕ) → IsKey key → 1 < at → IsUnderWay key block form at →
    turned ≡ inv_round_key (key_expansion key) (at - 1) → Turns ((at - 1 + 2) % 4) form turned next → IsUnderWay key block next (at - 1)
gone_on key block form next turned at is_key more u turned_is turns =
    let k = round_key (key_expansion key) in
    let bytes = round_key_bytes key (at - 1) is_key.bytes in
    let shifts : (at + 2) % 4 ≡ ((at - 1 + 2) % 4 + 1) % 4 = omega arith in
    record {
      some = omega arith;
      state = inv_mix_columns (add_round_key (inv_sub_bytes (inv_shift_rows u.state)) (k (at - 1)));
      is_block = IsBlock-inv_mix_columns _ (IsBlock-add_round_key _ (k (at - 1)) (IsBlock-restored u.state u.is_block) bytes);
      has_form = turns u.state (k (at - 1)) u.is_block bytes (u.has_form ∙ ap (λ n. map inv_form (kept n u.state)) shifts) turned_is;
      left = sym (inv_rounds_before k u.state (at - 1) (omega arith)) ∙ u.left;
    }

-- what the last round does
abbrev pub Ends : List ℕ → List ℕ → List ℕ → Type 0
Ends form key result =
    (block : List ℕ) → IsBlock block → form ≡ map inv_form (kept 3 block) → result ≡ add_round_key (inv_sub_bytes (inv_shift_rows block)) key

pub ended : (key block form result last : List ℕ) (at : ℕ) → at - 1 ≡ 0 → IsUnderWay key block form at →
    last ≡ round_key (key_expansion key) 0 → Ends form last result → result ≡ inv_cipher key block
unfolding inv_rounds
ended key block form result last at end u last_is ends =
    let shifts : (at + 2) % 4 ≡ 3 = omega (arith, end, u.some) in
    ends u.state u.is_block (u.has_form ∙ ap (λ n. map inv_form (kept n u.state)) shifts)
    ∙ ap (add_round_key (inv_sub_bytes (inv_shift_rows u.state))) last_is
    ∙ (rw end at u.left)
