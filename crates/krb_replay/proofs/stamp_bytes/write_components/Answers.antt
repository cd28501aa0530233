use Rattle.std.proofs.Common.{◌<◌, ◌^◌, ◌++◌, ◌∙◌, ℕ, List, ap, length, sym, subst, append_assoc}
use Rattle.std.specs.List.{All, flat_map}
use Rattle.std.proofs.lemmas.List.Elements.{All-cons}
use Rattle.krb_replay.specs.Bytes.{text_bytes}
use Rattle.krb_replay.proofs.stamp_bytes.write_components.Goals as goal

pub loop-component-preserved : goal.loop-component-preserved
loop-component-preserved c =
    let one = c.in-Some.component.now in
    let others = c.next.new.self in
    record {
      written =
          ap (λ (t : List ℕ). t ++ flat_map text_bytes others) c.in_ok-write_text.ensures.written
          ∙ append_assoc c.loop-component.out.items (text_bytes one) (flat_map text_bytes others)
          ∙ ap (λ (ts : List (List ℕ)). c.loop-component.out.items ++ flat_map text_bytes ts) (sym c.in-Some.ensures.steps) ∙ c.loop-component.invariant.written;
      fit = λ fits. c.loop-component.invariant.fit (subst (All (λ (t : List ℕ). length t < 2 ^ 64)) (sym c.in-Some.ensures.steps) (All-cons (λ (t : List ℕ). length t < 2 ^ 64) one others c.write_text.ensures.fits fits));
    }
