-- Tables, a row and a column at a time.
use Rattle.std.proofs.Common.{◌≡◌, ℕ, suc, ◌+◌, ◌<◌, ◌≤◌, max, List, [], ◌∷◌, ◌++◌, length, get_or, take, map, All, inl, inr, refl, sym, ap, ◌∙◌, arith}
use Rattle.std.specs.List.{flat_map, enumerate_from}
use Rattle.std.proofs.lemmas.Bool.{cases_order}
use Rattle.std.proofs.lemmas.List.{take_more, map-append, flat_map_more, get_or_past, length-take-le}
use Rattle.krb_readable.specs.Table.{TableRow, greatest, width, cell_at, column_width, filled, spaced}

greatest_push : (ns : List ℕ) (n : ℕ) → greatest (ns ++ n ∷ []) ≡ max (greatest ns) n
greatest_push [] n = omega arith
greatest_push (m ∷ ns) n = omega (arith, greatest_push ns n)

-- the greatest value of a function, one item on
pub greatest_more : {X : Type 0} (f : X → ℕ) (xs : List X) (i : ℕ) (d : X) → i < length xs
    → greatest (map f (take (i + 1) xs)) ≡ max (greatest (map f (take i xs))) (f (get_or xs i d))
greatest_more f xs i d h =
    ap (λ ys. greatest (map f ys)) (take_more xs i d h)
    ∙ (ap greatest (map-append f (take i xs) (get_or xs i d ∷ [])) ∙ greatest_push (map f (take i xs)) (f (get_or xs i d)))

-- a column that no row reaches has no width
pub column_width_past : (rows : List TableRow) (reached column : ℕ) → All (λ row. length row.cells ≤ reached) rows → reached ≤ column
    → column_width rows column ≡ 0
column_width_past [] reached column all h = refl
column_width_past (row ∷ rows) reached column all h =
    let past : length row.cells ≤ column = omega (arith, all 0 row (omega arith)) in
    let here : width (cell_at column row) ≡ 0 = ap width (get_or_past row.cells column [] past) in
    omega (arith, here, column_width_past rows reached column (λ k d lt. all (suc k) d (omega arith)) h)

enumerate_push : {X : Type 0} (n : ℕ) (xs : List X) (x : X) → enumerate_from n (xs ++ x ∷ []) ≡ enumerate_from n xs ++ (n + length xs, x) ∷ []
enumerate_push {X} n [] x = let e : n ≡ n + 0 = omega arith in ap {B = List (ℕ × X)} (λ k. (k, x) ∷ []) e
enumerate_push {X} n (y ∷ xs) x =
    let e : n + 1 + length xs ≡ n + suc (length xs) = omega arith in
    ap {B = List (ℕ × X)} (λ rest. (n, y) ∷ rest)
    (enumerate_push (n + 1) xs x ∙ ap {B = List (ℕ × X)} (λ k. enumerate_from (n + 1) xs ++ (k, x) ∷ []) e)

-- the widths that were counted are those of all columns, if no row goes further
pub widths_counted : (rows : List TableRow) (widths : List ℕ) (n : ℕ) → All (λ row. length row.cells ≤ n) rows → length widths ≡ n
    → ((k : ℕ) → k < n → get_or widths k 0 ≡ column_width rows k) → (column : ℕ) → get_or widths column 0 ≡ column_width rows column
widths_counted rows widths n all counted each column =
    let past : n ≤ column → get_or widths column 0 ≡ column_width rows column =
    λ h. get_or_past widths column 0 (omega arith) ∙ sym (column_width_past rows n column all h) in
    elim (cases_order column n) [ inr (inl lt) ↦ each column lt | inl same ↦ past (omega arith) | inr (inr gt) ↦ past (omega arith) ]

-- one cell more of a line
pub spaced_step : (widths : ℕ → ℕ) (bs text new : List ℕ) (cells : List (List ℕ)) (i w : ℕ) (cell : List ℕ) → i < length cells
    → cell ≡ get_or cells i cell → w ≡ widths i
    → text ≡ bs ++ flat_map (spaced widths) (enumerate_from 0 (take i cells))
    → new ≡ text ++ (filled w cell ++ (32 ∷ 32 ∷ []))
    → new ≡ bs ++ flat_map (spaced widths) (enumerate_from 0 (take (i + 1) cells))
spaced_step widths bs text new cells i w cell h is wide before wrote =
    let long : 0 + length (take i cells) ≡ i = omega (arith, length-take-le i cells) in
    let next : enumerate_from 0 (take (i + 1) cells) ≡ enumerate_from 0 (take i cells) ++ (i, cell) ∷ [] =
    ap (λ xs. enumerate_from 0 xs) (take_more cells i cell h) ∙ enumerate_push 0 (take i cells) (get_or cells i cell)
    ∙ ap {B = List (ℕ × List ℕ)} (λ k. enumerate_from 0 (take i cells) ++ (k, get_or cells i cell) ∷ []) long
    ∙ ap {B = List (ℕ × List ℕ)} (λ one. enumerate_from 0 (take i cells) ++ (i, one) ∷ []) (sym is) in
    wrote ∙ ap (λ z. z ++ (filled w cell ++ (32 ∷ 32 ∷ []))) before
    ∙ ap (λ z. (bs ++ flat_map (spaced widths) (enumerate_from 0 (take i cells))) ++ (filled z cell ++ (32 ∷ 32 ∷ []))) wide
    ∙ flat_map_more (spaced widths) bs (enumerate_from 0 (take i cells)) (i, cell)
    ∙ ap (λ z. bs ++ flat_map (spaced widths) z) (sym next)
