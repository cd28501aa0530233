use Rattle.std.proofs.Common.{arith, rules, ◌∙◌}
use borrow.Rule.Slice.PartMut.{same_len_mid}
use Rattle.krb_aes.proofs.ExpansionRules.{first_words_none, first_words_more, key_expansion_all, key_of_expansion}
use Rattle.krb_aes.proofs.expansion.expand.Goals as goal

pub loop-i-init : goal.loop-i-init
loop-i-init c = record {
  words = first_words_none _ _ c.requires c.with_room-words.ensures;
  long = search rules;
}

pub loop-i-preserved : goal.loop-i-preserved
loop-i-preserved c = record {
  words = first_words_more _ _ _ _ c.requires (omega arith) (omega arith) c.loop-i.invariant.words
      (cc);
  long = same_len_mid _ _ _ _ c.copy_from_slice.ensures.len ∙ c.loop-i.invariant.long;
}

pub returns-clause-words : goal.returns-clause-words
returns-clause-words c = key_expansion_all _ _ _ c.requires (omega arith) c.loop-i.invariant.words

pub returns-clause-key : goal.returns-clause-key
returns-clause-key c = key_of_expansion _ _ (key_expansion_all _ _ _ c.requires (omega arith) c.loop-i.invariant.words)
