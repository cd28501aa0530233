use Rattle.std.proofs.Common.{rules, ◌≡◌, pos, List, ◌∷◌, subst}
use Rattle.std.specs.Prelude.{All, ◌↔◌}
use Rattle.std.proofs.lemmas.List.Elements.{All-cons, All-tail, All-same}
use Rattle.krb_msg.specs.Borrowed.{typed_of}
use Rattle.krb_msg.specs.Fields.{type_of}
use Rattle.krb_ap.proofs.times.has_only_type_1.Goals as goal

one_less : {X : Type 0} (P : X → Type 0) (Q : Type 0) (x : X) (xs whole : List X) → whole ≡ x ∷ xs → P x → (All P whole ↔ Q) → (All P xs ↔ Q)
one_less P Q x xs whole e p h =
    (λ rest. h.0 (All-same P whole (x ∷ xs) e (All-cons P x xs p rest)), λ q. All-tail P x xs (subst (All P) e (h.1 q)))

pub loop-element-preserved : goal.loop-element-preserved
loop-element-preserved c =
    one_less (λ element. type_of element ≡ pos 1) _ (typed_of c.in-Some.element) _ _ c.in-Some.ensures.steps
    (search rules) c.loop-element.invariant
