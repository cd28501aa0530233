-- The laws of spellings, for all kinds at once.
use Rattle.std.proofs.Common.{◌*◌, List, [], ◌∷◌, Option, Some, None, arith}
use Rattle.std.specs.Prelude.{IfSome, IsSomeAnd}
use Rattle.krb_der.specs.Kind.{Kind, leaf, wrapped, sequence, Fields, ends, must, may, each, tag_of, ValueOf, FieldsOf}
use Rattle.krb_der.specs.Content.{Elementary, Written, Negated}
use Rattle.krb_der.specs.Spells.{IfPresent, SpellsContent, SpellsFields, SpellsBy}
use Rattle.krb_der.specs.Size.{size_if, content_size, fields_size, size_of, NumbersFit, FieldsFit}
use Rattle.krb_der.specs.Numbers.{numbers_in, numbers_among, HasHigh, HaveHigh}
use Rattle.krb_der.proofs.PartLaws.{Part, IsPart, nothing_is, element, element_is, joined_is}
use Rattle.krb_der.proofs.LeafLaws.{is_leaf}

abbrev pub content_part : (k : Kind) → ValueOf k → Part
content_part k v =
    record {
      Reads = SpellsContent Elementary k v;
      Writes = SpellsContent Written k v;
      Negative = SpellsContent Negated k v;
      Fits = NumbersFit k v;
      IsHigh = HasHigh k v;
      size = content_size k v;
    }

abbrev pub fields_part : (fs : Fields) → FieldsOf fs → Part
fields_part fs v =
    record {
      Reads = SpellsFields Elementary fs v;
      Writes = SpellsFields Written fs v;
      Negative = SpellsFields Negated fs v;
      Fits = FieldsFit fs v;
      IsHigh = HaveHigh fs v;
      size = fields_size fs v;
    }

abbrev option_part : (k : Kind) → Option (ValueOf k) → Part
option_part k o =
    record {
      Reads = IfPresent (SpellsBy Elementary k) o;
      Writes = IfPresent (SpellsBy Written k) o;
      Negative = IfPresent (SpellsBy Negated k) o;
      Fits = IfSome o (λ v. NumbersFit k v);
      IsHigh = IsSomeAnd o (λ v. HasHigh k v);
      size = size_if (size_of k) o;
    }

module _ (k : Kind) (is : (v : ValueOf k) → IsPart (numbers_in k) (content_part k v)) where
  one_is : (v : ValueOf k) → IsPart (numbers_in k) (element (tag_of k) (content_part k v))
  one_is v = element_is (tag_of k) (is v)

  option_is : (o : Option (ValueOf k)) → IsPart (numbers_in k) (option_part k o)
  option_is None = nothing_is
  option_is (Some v) = one_is v

  -- two for each sequence number, since there may be any number of parts
  each_is : (vs : List (ValueOf k)) → IsPart (2 * numbers_in k) (fields_part (each k) vs)
  each_is [] = nothing_is
  each_is (v ∷ vs) = joined_is (λ few. omega (arith, few)) (one_is v) (each_is vs)

mutual
  content_is : (k : Kind) (v : ValueOf k) → IsPart (numbers_in k) (content_part k v)
  content_is (leaf c) v = (is_leaf c).is v
  content_is (wrapped tag k) v = element_is (tag_of k) (content_is k v)
  content_is (sequence fs) v = fields_is fs v

  pub fields_is : (fs : Fields) (v : FieldsOf fs) → IsPart (numbers_among fs) (fields_part fs v)
  fields_is ends v = nothing_is
  fields_is (must k fs) v = joined_is (λ few. omega arith) (one_is k (λ x. content_is k x) v.0) (fields_is fs v.1)
  fields_is (may k fs) v = joined_is (λ few. omega arith) (option_is k (λ x. content_is k x) v.0) (fields_is fs v.1)
  fields_is (each k) v = each_is k (λ x. content_is k x) v

pub spelled_is : (k : Kind) (v : ValueOf k) → IsPart (numbers_in k) (element (tag_of k) (content_part k v))
spelled_is k = one_is k (content_is k)
