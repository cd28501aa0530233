-- The columns of a table line up.
use Rattle.std.proofs.Common.{◌≡◌, ℕ, zero, suc, ◌+◌, ◌-◌, ◌<◌, ◌≤◌, List, [], ◌∷◌, ◌++◌, length, get_or, map, replicate, sum_by, Contains, refl, sym, ap, subst, ◌∙◌, arith, append_assoc}
use Rattle.std.specs.List.{flat_map, enumerate_from, range_with_len}
use Rattle.std.proofs.lemmas.Bool.Decides.{nat_tests}
use Rattle.std.proofs.lemmas.List.Sums.{sum_by-append, sum_by-cons}
use Rattle.krb_readable.specs.Table.{IsNarrow, TableRow, greatest, width, cell_at, column_width, filled, spaced, line_of, start_of}

width-append : (a b : List ℕ) → width (a ++ b) ≡ width a + width b
width-append a b = sum_by-append _ a b

width_spaces : (n : ℕ) → width (replicate n 32) ≡ n
width_spaces zero = refl
width_spaces (suc n) = sum_by-cons _ 32 (replicate n 32) ∙ omega (arith, width_spaces n)

-- a filled cell with its two spaces has its column's width, and two more
width_spaced : (widths : ℕ → ℕ) (n : ℕ) (cell : List ℕ) → width cell ≤ widths n → width (spaced widths (n, cell)) ≡ widths n + 2
width_spaced widths n cell h =
    let two : width (32 ∷ 32 ∷ []) ≡ 2 = refl in
    omega (arith, two, width-append (filled (widths n) cell) (32 ∷ 32 ∷ []), width-append cell (replicate (widths n - width cell) 32), width_spaces (widths n - width cell))

-- a row's cells from the column n on are no wider than their columns
pub record AreWithin (widths : ℕ → ℕ) (n : ℕ) (cells : List (List ℕ)) : Type 0 where
  pub each : (k : ℕ) → k < length cells → width (get_or cells k []) ≤ widths (n + k)

within_rest : (widths : ℕ → ℕ) (n : ℕ) (cell : List ℕ) (cells : List (List ℕ)) → AreWithin widths n (cell ∷ cells) → AreWithin widths (n + 1) cells
within_rest widths n cell cells h = record {
  each = λ k lt. let e : n + suc k ≡ n + 1 + k = omega arith in subst (λ (z : ℕ). width (get_or cells k []) ≤ widths z) e (h.each (suc k) (omega arith));
}

-- what comes before a place, which is so many characters
pub record Begins (whole at : List ℕ) (count : ℕ) : Type 0 where
  pub before : List ℕ
  pub whole_is : whole ≡ before ++ at
  pub count_is : width before ≡ count

-- one cell before what begins
after_cell : (widths : ℕ → ℕ) (n : ℕ) (cell front tail at : List ℕ) (count : ℕ) → width cell ≤ widths n → Begins (front ++ tail) at count
    → Begins ((spaced widths (n, cell) ++ front) ++ tail) at (widths n + 2 + count)
after_cell widths n cell front tail at count h b = record {
  before = spaced widths (n, cell) ++ b.before;
  whole_is = append_assoc (spaced widths (n, cell)) front tail ∙ ap (λ z. spaced widths (n, cell) ++ z) b.whole_is
      ∙ sym (append_assoc (spaced widths (n, cell)) b.before at);
  count_is = omega (arith, width-append (spaced widths (n, cell)) b.before, width_spaced widths n cell h, b.count_is);
}

starts : (widths : ℕ → ℕ) (n k : ℕ) → sum_by (λ before. widths before + 2) (range_with_len n (suc k)) ≡ widths n + 2 + sum_by (λ before. widths before + 2) (range_with_len (n + 1) k)
starts widths n k = sum_by-cons (λ before. widths before + 2) n (range_with_len (n + 1) k)

tail_begins : (widths : ℕ → ℕ) (n : ℕ) (cells : List (List ℕ)) (tail : List ℕ) → AreWithin widths n cells
    → Begins (flat_map (spaced widths) (enumerate_from n cells) ++ tail) tail (sum_by (λ before. widths before + 2) (range_with_len n (length cells)))
tail_begins widths n [] tail h = record { before = []; whole_is = refl; count_is = refl }
tail_begins widths n (cell ∷ cells) tail h =
    let first : width cell ≤ widths n = let e : n + 0 ≡ n = omega arith in subst (λ (z : ℕ). width cell ≤ widths z) e (h.each 0 (omega arith)) in
    let rest = tail_begins widths (n + 1) cells tail (within_rest widths n cell cells h) in
    rw (starts widths n (length cells)) (after_cell widths n cell (flat_map (spaced widths) (enumerate_from (n + 1) cells)) tail tail _ first rest)

-- a cell begins after the columns before it
pub record CellBegins (whole cell : List ℕ) (count : ℕ) : Type 0 where
  pub after : List ℕ
  pub begins : Begins whole (cell ++ after) count

cell_begins : (widths : ℕ → ℕ) (n : ℕ) (cells : List (List ℕ)) (tail : List ℕ) (k : ℕ) → AreWithin widths n cells → k < length cells
    → CellBegins (flat_map (spaced widths) (enumerate_from n cells) ++ tail) (get_or cells k []) (sum_by (λ before. widths before + 2) (range_with_len n k))
cell_begins widths n [] tail k h lt = absurd (omega arith)
cell_begins widths n (cell ∷ cells) tail zero h lt = record {
  after = replicate (widths n - width cell) 32 ++ ((32 ∷ 32 ∷ []) ++ (flat_map (spaced widths) (enumerate_from (n + 1) cells) ++ tail));
  begins = record { before = []; whole_is = simp append_assoc; count_is = refl };
}
cell_begins widths n (cell ∷ cells) tail (suc k) h lt =
    let first : width cell ≤ widths n = let e : n + 0 ≡ n = omega arith in subst (λ (z : ℕ). width cell ≤ widths z) e (h.each 0 (omega arith)) in
    let rest = cell_begins widths (n + 1) cells tail k (within_rest widths n cell cells h) (omega arith) in
    record {
      after = rest.after;
      begins = rw (starts widths n k) (after_cell widths n cell (flat_map (spaced widths) (enumerate_from (n + 1) cells)) tail _ _ first rest.begins);
    }

-- ---- a column is as wide as each of its cells
greatest_bounds : {X : Type 0} (f : X → ℕ) (xs : List X) (k : ℕ) (d : X) → k < length xs → f (get_or xs k d) ≤ greatest (map f xs)
greatest_bounds f [] k d h = absurd (omega arith)
greatest_bounds f (x ∷ xs) zero d h = omega arith
greatest_bounds f (x ∷ xs) (suc k) d h = omega (arith, greatest_bounds f xs k d (omega arith))

row_within : (rows : List TableRow) (row : TableRow) → Contains rows row → IsNarrow row → AreWithin (column_width rows) 0 row.cells
row_within rows row (k, lt, is) narrow = record {
  each = λ column h.
      let f : TableRow → ℕ = λ other. width (cell_at column other) in
      let bound = greatest_bounds f rows k row lt in
      let same : f (get_or rows k row) ≡ f row = ap f is in
      let e : 0 + column ≡ column = omega arith in
      subst (λ (z : ℕ). width (cell_at column row) ≤ column_width rows z) (sym e) (grind (arith, nat_tests, bound, same, narrow column h));
}

pub cells_line_up : (rows : List TableRow) (row : TableRow) (column : ℕ) → Contains rows row → IsNarrow row → column < length row.cells
    → CellBegins (line_of (column_width rows) row) (cell_at column row) (start_of (column_width rows) column)
cells_line_up rows row column in_rows narrow h = cell_begins (column_width rows) 0 row.cells (row.last ++ 10 ∷ []) column (row_within rows row in_rows narrow) h

pub last_lines_up : (rows : List TableRow) (row : TableRow) → Contains rows row → IsNarrow row
    → Begins (line_of (column_width rows) row) (row.last ++ 10 ∷ []) (start_of (column_width rows) (length row.cells))
last_lines_up rows row in_rows narrow = tail_begins (column_width rows) 0 row.cells (row.last ++ 10 ∷ []) (row_within rows row in_rows narrow)
