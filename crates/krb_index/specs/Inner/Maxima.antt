-- A tree in which each node is the greater of its two children. The root is the node 1, the children of a
-- node `n` are the nodes `2 n` and `2 n + 1`, and what is past the end of the list is 0.
use Rattle.std.specs.Prelude.{◌≡◌, ℕ, ◌+◌, ◌*◌, ◌^◌, ◌<◌, ◌≤◌, List, length, max, slice_index}

abbrev pub greater_child : List ℕ → ℕ → ℕ
greater_child tree node = max (slice_index tree (2 * node)) (slice_index tree (2 * node + 1))

-- the nodes from one on, up to the leaves, are the greater of their children
abbrev pub JoinsFrom : List ℕ → ℕ → ℕ → Type 0
JoinsFrom tree from leaves = (node : ℕ) → from ≤ node → node < leaves → slice_index tree node ≡ greater_child tree node

abbrev pub IsPowerOfTwo : ℕ → Type 0
IsPowerOfTwo count = (height : ℕ) × (count ≡ 2 ^ height)

-- a tree whose leaves begin at a node
pub record IsTree (tree : List ℕ) (leaves : ℕ) : Type 0 where
  pub power : IsPowerOfTwo leaves
  pub first : leaves ≤ length tree
  pub last : length tree ≤ 2 * leaves
  pub joins : JoinsFrom tree 1 leaves
