use Rattle.std.proofs.Common.{◌++◌, ◌∷◌, [], ap, sym, subst, ◌∙◌, List, ℕ, append_assoc}
use Rattle.std.specs.Int.{w16}
use Rattle.krb_file.specs.Cursor.{data_bytes}
use Rattle.krb_keytab.specs.Inner.Putting.{PutsTo}
use Rattle.krb_keytab.proofs.PutLaws.{PutsTo-then, one_further}
use Rattle.krb_keytab.proofs.part.RefComponentsPart.put.Goals as goal

pub loop-bytes-preserved : goal.loop-bytes-preserved
loop-bytes-preserved c =
    let front = c.loop-bytes.invariant.0 in
    let one = c.in-Some.bytes.now in (
      front ++ one ∷ [],
      append_assoc front (one ∷ []) c.next.new.self ∙ ap (λ (others : List (List ℕ)). front ++ others) (sym c.in-Some.ensures.steps) ∙ c.loop-bytes.invariant.1,
      subst (λ (t : List ℕ). PutsTo c.args.out.now c.args.at t c.put-end.new.out c.put-end.result) (sym (one_further (data_bytes w16) front one)) (PutsTo-then c.loop-bytes.invariant.2 c.put-end.ensures),
    )
