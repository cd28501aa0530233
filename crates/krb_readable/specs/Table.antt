-- A table as text: a line for each row, its cells in columns. A cell is a list of bytes.
use Rattle.std.specs.Prelude.{ℕ, ◌+◌, ◌-◌, ◌<◌, ◌≤◌, min, max, length, List, [], ◌∷◌, ◌++◌, map, replicate, count_by, sum_by, codes, slice_index_or}
use Rattle.std.specs.List.{flat_map, enumerate_from, range_with_len}
use Rattle.std.specs.Fmt.{is_char_start}

-- the cells of the columns that are filled with spaces, and that of the last column
pub record TableRow : Type 0 where
  pub cells : List (List ℕ)
  pub last : List ℕ

-- how many characters a cell has: one for each byte that doesn't continue one (RFC 3629, section 3)
abbrev pub width : List ℕ → ℕ
width cell = count_by is_char_start cell

-- the greatest number, or 0 if there is none
abbrev pub greatest : List ℕ → ℕ
greatest [] = 0
greatest (n ∷ others) = max n (greatest others)

-- the cell in a column, counted from 0; it is empty if the row ends before the column
abbrev pub cell_at : ℕ → TableRow → List ℕ
cell_at column row = slice_index_or row.cells column []

-- the most characters that a column is filled to: one long cell doesn't make every line long
abbrev pub widest : ℕ
widest = 256

-- the width of a column: that of its widest cell, up to this
abbrev pub column_width : List TableRow → ℕ → ℕ
column_width rows column = min widest (greatest (map (λ row. width (cell_at column row)) rows))

-- no cell of the row is wider than that
abbrev pub IsNarrow : TableRow → Type 0
IsNarrow row = (column : ℕ) → column < length row.cells → width (cell_at column row) ≤ widest

-- a cell, filled with spaces up to a width
abbrev pub filled : ℕ → List ℕ → List ℕ
filled to cell = cell ++ replicate (to - width cell) 32

-- a cell with its column, filled up to the column's width, and the two spaces that follow
abbrev pub spaced : (ℕ → ℕ) → ℕ × List ℕ → List ℕ
spaced widths place = filled (widths place.0) place.1 ++ codes "  "

-- a row's line, with the widths of the columns: the cells, the last one as it is, and the byte 10
abbrev pub line_of : (ℕ → ℕ) → TableRow → List ℕ
line_of widths row = flat_map (spaced widths) (enumerate_from 0 row.cells) ++ (row.last ++ 10 ∷ [])

-- the lines of the rows, in their order
abbrev pub table_text : List TableRow → List ℕ
table_text rows = flat_map (line_of (column_width rows)) rows

-- where a column begins: after the columns before it, and two spaces after each
abbrev pub start_of : (ℕ → ℕ) → ℕ → ℕ
start_of widths column = sum_by (λ before. widths before + 2) (range_with_len 0 column)
