-- An index of hashes is made from the last place to the first, and finding a hash passes over others alone.
use Rattle.std.proofs.Common.{◌≡◌, ℕ, ◌+◌, ◌<◌, subst, List, length, sym, ap, ◌∙◌, inl, inr, arith}
use Rattle.std.specs.Prelude.{◌≢◌, slice_index, slice_set}
use Rattle.std.proofs.lemmas.Bool.{cases_eq}
use Rattle.std.proofs.lemmas.List.{get_or-set_same, get_or-set_other, length-set}
use Rattle.krb_index.specs.Inner.Buckets.{bucket_at, LeadsTo, IsLinkedFrom}

leads_here : (count : ℕ) (hashes : List ℕ) (bucket place to : ℕ) → to ≡ place → bucket_at count hashes place ≡ bucket → LeadsTo count hashes bucket place to
leads_here count hashes bucket place to is here = record {
  forward = omega arith;
  skips = λ k from below within. absurd (omega arith);
  lands = λ within. ap (bucket_at count hashes) is ∙ here;
}

leads_past : (count : ℕ) (hashes : List ℕ) (bucket place to past : ℕ) → past ≡ to → bucket_at count hashes place ≢ bucket → LeadsTo count hashes bucket (place + 1) to → LeadsTo count hashes bucket place past
leads_past count hashes bucket place to past is other h = let f = h.forward in record {
  forward = omega arith;
  skips = λ k from below within. elim (cases_eq k place) [
    | inl same ↦ λ e. other (ap (bucket_at count hashes) (sym same) ∙ e)
    | inr behind ↦ h.skips k (omega arith) (omega arith) within
  ];
  lands = λ within. ap (bucket_at count hashes) is ∙ h.lands (omega arith);
}

-- the place before goes to the front of its bucket
pub one_linked : (count : ℕ) (hashes firsts nexts : List ℕ) (place bucket : ℕ) → place < length hashes → bucket < count → bucket_at count hashes place ≡ bucket → IsLinkedFrom count hashes (place + 1) firsts nexts
    → IsLinkedFrom count hashes place (slice_set firsts bucket place) (slice_set nexts place (slice_index firsts bucket))
one_linked count hashes firsts nexts place bucket within small here h = record {
  firsts_count = length-set firsts bucket place ∙ h.firsts_count;
  nexts_count = length-set nexts place (slice_index firsts bucket) ∙ h.nexts_count;
  first = λ b lt. elim (cases_eq b bucket) [
    | inl same ↦ leads_here count hashes b place _ (ap (slice_index (slice_set firsts bucket place)) same ∙ get_or-set_same firsts bucket place 0 (subst (λ n. bucket < n) (sym h.firsts_count) small)) (here ∙ sym same)
    | inr other ↦ leads_past count hashes b place (slice_index firsts b) _ (get_or-set_other firsts bucket b place 0 other) (λ e. other (sym e ∙ here)) (h.first b lt)
  ];
  next = λ k from lt. elim (cases_eq k place) [
    | inl same ↦ subst (λ n. LeadsTo count hashes (bucket_at count hashes n) (n + 1) (slice_index (slice_set nexts place (slice_index firsts bucket)) n)) (sym same)
        (subst (LeadsTo count hashes (bucket_at count hashes place) (place + 1)) (sym (get_or-set_same nexts place (slice_index firsts bucket) 0 (subst (λ n. place < n) (sym h.nexts_count) within)))
        (subst (λ b. LeadsTo count hashes b (place + 1) (slice_index firsts bucket)) (sym here) (h.first bucket small)))
    | inr behind ↦ subst (LeadsTo count hashes (bucket_at count hashes k) (k + 1)) (sym (get_or-set_other nexts place k (slice_index firsts bucket) 0 behind)) (h.next k (omega arith) lt)
  ];
}
