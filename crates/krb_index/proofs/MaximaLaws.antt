-- The first leaf of a tree of maxima that is great enough, and a leaf that is changed.
use Rattle.std.proofs.Common.{◌≡◌, ℕ, zero, suc, ◌+◌, ◌-◌, ◌*◌, ◌/◌, ◌%◌, ◌^◌, ◌<◌, ◌≤◌, max, List, length, drop, inl, inr, sym, ap, subst, ◌∙◌, arith}
use Rattle.std.specs.Prelude.{◌≢◌, ◌⊎◌, All, slice_index, slice_set}
use Rattle.std.proofs.Math.Nat.{div-add-mod, pow-succ'}
use Rattle.std.proofs.Math.Pow.{pow_mono}
use Rattle.std.proofs.lemmas.Nat.{pow_pos}
use Rattle.std.proofs.lemmas.Bool.{cases_eq, cases_lt}
use Rattle.std.proofs.lemmas.List.{get_or-drop, get_or_default, get_or_past, get_or-set_same, get_or-set_other, length-drop}
use Rattle.krb_index.specs.Inner.Maxima.{greater_child, IsPowerOfTwo, IsTree, JoinsFrom}
use Rattle.krb_index.specs.Places.{IsFirstAtLeast}

-- ---- powers of two

pub twice : (n : ℕ) → 2 ^ suc n ≡ 2 * 2 ^ n
twice n = pow-succ' 2 n

next_power : (a b : ℕ) → 2 ^ a < 2 ^ b → 2 * 2 ^ a ≤ 2 ^ b
next_power a b below = elim (cases_lt a b) [
  | inl less ↦ let more : 2 ^ suc a ≤ 2 ^ b = pow_mono (omega arith) in omega (arith, twice a)
  | inr more ↦ let least : 2 ^ b ≤ 2 ^ a = pow_mono more in absurd (omega arith)
]

-- ---- from a row of nodes to that of their children

-- one of two
half_of : (k : ℕ) → (k ≡ 2 * (k / 2)) ⊎ (k ≡ 2 * (k / 2) + 1)
half_of k = elim (cases_lt (k % 2) 1) [
  | inl even ↦ inl (omega (arith, div-add-mod k 2))
  | inr odd ↦ inr (omega (arith, div-add-mod k 2))
]

child_less : (tree : List ℕ) (least node k : ℕ) → slice_index tree node ≡ greater_child tree node → slice_index tree node < least → (k ≡ 2 * node) ⊎ (k ≡ 2 * node + 1) → slice_index tree k < least
child_less tree least node k joins less which = elim which [
  | inl first ↦ subst (λ n. slice_index tree n < least) (sym first) (omega arith)
  | inr second ↦ subst (λ n. slice_index tree n < least) (sym second) (omega arith)
]

-- the nodes of a row that are before another are less, and so their children are
pub children_less : (tree : List ℕ) (leaves least row node : ℕ) → JoinsFrom tree 1 leaves → 0 < row → node ≤ leaves → ((k : ℕ) → row ≤ k → k < node → slice_index tree k < least)
    → (k : ℕ) → 2 * row ≤ k → k < 2 * node → slice_index tree k < least
children_less tree leaves least row node joins some within before k from to =
    let half = half_of k in
    let low : row ≤ k / 2 = elim half [ inl even ↦ omega arith | inr odd ↦ omega arith ] in
    let high : k / 2 < node = elim half [ inl even ↦ omega arith | inr odd ↦ omega arith ] in
    child_less tree least (k / 2) k (joins (k / 2) (omega arith) (omega arith)) (before (k / 2) low high) half

-- ---- none is great enough

row_less : (tree : List ℕ) (leaves least depth : ℕ) → JoinsFrom tree 1 leaves → slice_index tree 1 < least → 2 ^ depth ≤ leaves
    → (k : ℕ) → 2 ^ depth ≤ k → k < 2 * 2 ^ depth → slice_index tree k < least
row_less tree leaves least zero joins root within k from to = let one : 1 ≡ k = omega arith in subst (λ n. slice_index tree n < least) one root
row_less tree leaves least (suc depth) joins root within k from to =
    let double = twice depth in
    let before = row_less tree leaves least depth joins root (omega arith) in
    children_less tree leaves least (2 ^ depth) (2 * 2 ^ depth) joins (pow_pos depth) (omega arith) before k (omega arith) (omega arith)

pub none_first : (tree : List ℕ) (leaves least : ℕ) → IsTree tree leaves → slice_index tree 1 < least → All (λ number. number < least) (drop leaves tree)
none_first tree leaves least is root = λ k d within.
    let power = is.power.1 in
    let last = is.last in
    let below : leaves + k < length tree = omega (arith, length-drop leaves tree) in
    rw (get_or-drop leaves tree k d, get_or_default tree (leaves + k) d 0 below)
    (row_less tree leaves least is.power.0 is.joins root (omega arith) (leaves + k) (omega arith) (omega arith))

pub none_left : (tree : List ℕ) (leaves least : ℕ) → length tree ≡ leaves → All (λ number. number < least) (drop leaves tree)
none_left tree leaves least all = λ k d within. absurd (omega (arith, length-drop leaves tree))

-- ---- the way down to the first

-- in its row, the node is the first that is great enough
pub record IsFirstOfRow (tree : List ℕ) (leaves least node : ℕ) : Type 0 where
  pub depth : ℕ
  pub within : 2 ^ depth ≤ leaves
  pub from : 2 ^ depth ≤ node
  pub to : node < 2 * 2 ^ depth
  pub before : (k : ℕ) → 2 ^ depth ≤ k → k < node → slice_index tree k < least
  pub here : least ≤ slice_index tree node

pub at_root : (tree : List ℕ) (leaves least : ℕ) → IsTree tree leaves → least ≤ slice_index tree 1 → IsFirstOfRow tree leaves least 1
at_root tree leaves least is root = record {
  depth = 0;
  within = let power = is.power.1 in let some = pow_pos is.power.0 in omega arith;
  from = omega arith;
  to = omega arith;
  before = λ k from to. absurd (omega arith);
  here = root;
}

deeper : (leaves : ℕ) (depth node : ℕ) → IsPowerOfTwo leaves → 2 ^ depth ≤ node → node < leaves → 2 ^ suc depth ≤ leaves
deeper leaves depth node power from to =
    let is = power.1 in
    let more : 2 * 2 ^ depth ≤ 2 ^ power.0 = next_power depth power.0 (omega arith) in
    omega (arith, twice depth)

pub first_child : (tree : List ℕ) (leaves least node : ℕ) → IsTree tree leaves → node < leaves → IsFirstOfRow tree leaves least node → least ≤ slice_index tree (2 * node) → IsFirstOfRow tree leaves least (2 * node)
first_child tree leaves least node is within row here =
    let double = twice row.depth in
    let low = row.from in
    let high = row.to in
    record {
      depth = suc row.depth;
      within = deeper leaves row.depth node is.power row.from within;
      from = omega arith;
      to = omega arith;
      before = λ k from to. children_less tree leaves least (2 ^ row.depth) node is.joins (pow_pos row.depth) (omega arith) row.before k (omega arith) to;
      here = here;
    }

pub second_child : (tree : List ℕ) (leaves least node : ℕ) → IsTree tree leaves → node < leaves → IsFirstOfRow tree leaves least node → slice_index tree (2 * node) < least → IsFirstOfRow tree leaves least (2 * node + 1)
second_child tree leaves least node is within row less =
    let double = twice row.depth in
    let low = row.from in
    let high = row.to in
    let some = pow_pos row.depth in
    let joins = is.joins node (omega arith) within in
    let great = row.here in
    record {
      depth = suc row.depth;
      within = deeper leaves row.depth node is.power row.from within;
      from = omega arith;
      to = omega arith;
      before = λ k from to. elim (cases_lt k (2 * node)) [
        | inl below ↦ children_less tree leaves least (2 ^ row.depth) node is.joins some (omega arith) row.before k (omega arith) below
        | inr above ↦ let same : 2 * node ≡ k = omega arith in subst (λ n. slice_index tree n < least) same less
      ];
      here = omega arith;
    }

-- the row of the leaves
at_leaves : (leaves depth node : ℕ) → IsPowerOfTwo leaves → 2 ^ depth ≤ leaves → node < 2 * 2 ^ depth → leaves ≤ node → 2 ^ depth ≡ leaves
at_leaves leaves depth node power within to from = elim (cases_lt (2 ^ depth) leaves) [
  | inl below ↦ let is = power.1 in let more : 2 * 2 ^ depth ≤ 2 ^ power.0 = next_power depth power.0 (omega arith) in absurd (omega arith)
  | inr above ↦ omega arith
]

pub first_found : (tree : List ℕ) (leaves least node : ℕ) → IsTree tree leaves → leaves < length tree → leaves ≤ node → IsFirstOfRow tree leaves least node → IsFirstAtLeast (drop leaves tree) least (node - leaves)
first_found tree leaves least node is some from row =
    let there = at_leaves leaves row.depth node is.power row.within row.to from in
    let back : leaves + (node - leaves) ≡ node = omega arith in
    record {
      within = elim (cases_lt node (length tree)) [
        | inl below ↦ omega (arith, length-drop leaves tree)
        | inr past ↦ let none = get_or_past tree node 0 past in let great = row.here in let front = row.before leaves (omega arith) (omega arith) in absurd (omega arith)
      ];
      before = λ k below. rw (get_or-drop leaves tree k 0) (row.before (leaves + k) (omega arith) (omega arith));
      here = rw (get_or-drop leaves tree (node - leaves) 0, back) row.here;
    }

-- ---- a node that is changed

-- a change elsewhere
pub still_joins : (tree : List ℕ) (changed value node : ℕ) → node ≢ changed → 2 * node ≢ changed → 2 * node + 1 ≢ changed → slice_index tree node ≡ greater_child tree node
    → slice_index (slice_set tree changed value) node ≡ greater_child (slice_set tree changed value) node
still_joins tree changed value node other first second joins =
    get_or-set_other tree changed node value 0 other
    ∙ joins
    ∙ ap (λ n. max n (slice_index tree (2 * node + 1))) (sym (get_or-set_other tree changed (2 * node) value 0 first))
    ∙ ap (λ n. max (slice_index (slice_set tree changed value) (2 * node)) n) (sym (get_or-set_other tree changed (2 * node + 1) value 0 second))

-- the node itself is joined
pub now_joins : (tree : List ℕ) (node : ℕ) → 0 < node → node < length tree → slice_index (slice_set tree node (greater_child tree node)) node ≡ greater_child (slice_set tree node (greater_child tree node)) node
now_joins tree node some within =
    let value = greater_child tree node in
    let first : 2 * node ≢ node = λ e. omega arith in
    let second : 2 * node + 1 ≢ node = λ e. omega arith in
    get_or-set_same tree node value 0 within
    ∙ ap (λ n. max n (slice_index tree (2 * node + 1))) (sym (get_or-set_other tree node (2 * node) value 0 first))
    ∙ ap (λ n. max (slice_index (slice_set tree node value) (2 * node)) n) (sym (get_or-set_other tree node (2 * node + 1) value 0 second))

-- the nodes from one on are joined, and then that before them
pub one_joined : (tree : List ℕ) (node leaves : ℕ) → 0 < node → node < length tree → JoinsFrom tree (node + 1) leaves → JoinsFrom (slice_set tree node (greater_child tree node)) node leaves
one_joined tree node leaves some within joins k from to = elim (cases_eq k node) [
  | inl same ↦ subst (λ n. slice_index (slice_set tree node (greater_child tree node)) n ≡ greater_child (slice_set tree node (greater_child tree node)) n) (sym same) (now_joins tree node some within)
  | inr other ↦ still_joins tree node (greater_child tree node) k other (λ e. omega arith) (λ e. omega arith) (joins k (omega arith) to)
]

-- all nodes before the leaves are joined, except perhaps one
abbrev pub JoinsBut : List ℕ → ℕ → ℕ → Type 0
JoinsBut tree but leaves = (node : ℕ) → 1 ≤ node → node < leaves → node ≢ but → slice_index tree node ≡ greater_child tree node

pub leaf_changed : (tree : List ℕ) (leaf value leaves : ℕ) → leaves ≤ leaf → JoinsFrom tree 1 leaves → JoinsBut (slice_set tree leaf value) (leaf / 2) leaves
leaf_changed tree leaf value leaves from joins k some to other =
    still_joins tree leaf value k (λ e. omega arith) (λ e. other (omega (arith, div-add-mod leaf 2))) (λ e. other (omega (arith, div-add-mod leaf 2))) (joins k some to)

pub node_joined : (tree : List ℕ) (node leaves : ℕ) → 0 < node → node < length tree → JoinsBut tree node leaves → JoinsBut (slice_set tree node (greater_child tree node)) (node / 2) leaves
node_joined tree node leaves some within joins k least to other = elim (cases_eq k node) [
  | inl same ↦ subst (λ n. slice_index (slice_set tree node (greater_child tree node)) n ≡ greater_child (slice_set tree node (greater_child tree node)) n) (sym same) (now_joins tree node some within)
  | inr elsewhere ↦ still_joins tree node (greater_child tree node) k elsewhere (λ e. other (omega (arith, div-add-mod node 2))) (λ e. other (omega (arith, div-add-mod node 2))) (joins k least to elsewhere)
]
