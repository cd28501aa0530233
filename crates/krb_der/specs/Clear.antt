-- Kinds whose optional fields differ from what may follow them.
use Rattle.std.specs.Prelude.{ℕ, Bool, true, false, not, ◌&&◌, ◌||◌, ◌==◌}
use Rattle.krb_der.specs.Kind.{Kind, leaf, wrapped, sequence, Fields, ends, must, may, each, tag_of}

-- whether the fields can begin with the tag
abbrev pub can_begin : Fields → ℕ → Bool
can_begin ends tag = false
can_begin (must k fs) tag = tag_of k == tag
can_begin (may k fs) tag = (tag_of k == tag) || can_begin fs tag
can_begin (each k) tag = tag_of k == tag

abbrev mutual
  pub is_clear : Kind → Bool
  is_clear (leaf c) = true
  is_clear (wrapped tag k) = is_clear k
  is_clear (sequence fs) = are_clear fs

  pub are_clear : Fields → Bool
  are_clear ends = true
  are_clear (must k fs) = is_clear k && are_clear fs
  are_clear (may k fs) = is_clear k && not (can_begin fs (tag_of k)) && are_clear fs
  are_clear (each k) = is_clear k
