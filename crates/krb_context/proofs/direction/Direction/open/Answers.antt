use Rattle.std.proofs.Common.{◌≡◌, ◌≤◌, ◌+◌, ◌-◌, ◌∙◌, ◌++◌, ℕ, List, Some, None, length, take, drop, sym, ap, refl, subst, Ok, Err, Result, IfOk, arith}
use Rattle.std.specs.Prelude.{IsErr}
use Rattle.std.specs.Result.{result_ok}
use Rattle.std.proofs.lemmas.Option.{IfSome_then}
use Rattle.std.proofs.lemmas.List.{drop-take, length-take, length-take-le, length-drop, take-take}
use Rattle.krb_enc.specs.Sealed.{Profile}
use Rattle.krb_enc.specs.declared.fault.NotSealed.{NotSealed}
use Rattle.krb_enc.specs.Key.{UsageKeyValue, profile_of}
use Rattle.krb_enc.specs.Opens.{Opens, body_of}
use Rattle.krb_enc.proofs.KeyLaws.{known_profile}
use Rattle.krb_enc.proofs.OnePlain.{one_plain}
use Rattle.krb_context.specs.Side.{seal_usage}
use Rattle.krb_context.specs.Wrap.{wrap_header}
use Rattle.krb_context.specs.Inner.Prepared.{seal_key}
use Rattle.krb_context.proofs.Wraps.{plain_parts, header_at_end}
use Rattle.krb_context.proofs.direction.Direction.open.Goals as goal

abbrev OpensBy : List ℕ → List ℕ → UsageKeyValue → Type 0
OpensBy body plain u = Opens (profile_of u.key) u.key.bytes u.usage body plain

no_ok : (r : Result (Unit {0}) NotSealed) → result_ok r ≡ None → IsErr r
no_ok (Ok x) is = absurd cc
no_ok (Err x) is = refl

if_ok : (r : Result (Unit {0}) NotSealed) (P : Type 0) (x : Unit {0}) → result_ok r ≡ Some x → IfOk r (λ _. P) → P
if_ok (Ok x) P y is it = it
if_ok (Err x) P y is it = absurd cc

pub returns-in_err-ok-clause-none : goal.returns-in_err-ok-clause-none
returns-in_err-ok-clause-none c _ text o =
    let plain : List ℕ = text ++ (o.filler ++ wrap_header c.args.header.flags c.args.header.extra 0 c.args.header.number) in
    let opens = subst (OpensBy c.args.body.now plain) (sym (c.self.invariant.sealing_is ∙ ap seal_key c.self.view_is)) o.opens in
    c.open_in_place.ensures.refused.0 (no_ok c.open_in_place.result (sym c.ok.ensures.value ∙ c.in_err-ok.was)) plain opens

-- what follows the confounder, before the tag
abbrev plain_in : List ℕ → ℕ → List ℕ
plain_in body tag_len = take (length body - tag_len - 16) (drop 16 body)

plain_is : (p : Profile) (body : List ℕ) (tag_len : ℕ) → tag_len ≡ p.tag_len → 16 + tag_len ≤ length body → drop 16 (body_of p body) ≡ plain_in body tag_len
plain_is p body tag_len is long =
    let sum : length body - p.tag_len ≡ 16 + (length body - tag_len - 16) = omega (arith, is, long) in
    ap (λ (n : ℕ). drop 16 (take n body)) sum ∙ drop-take 16 (length body - tag_len - 16) body

opened : (c : goal.After-text_before) → OpensBy c.args.body.now (plain_in c.open_in_place.new.text c.tag_len.result) (seal_key c.args.self.now)
opened c =
    let own = c.self.inside.sealing in
    let body = c.args.body.now in
    let new = c.open_in_place.new.text in
    let sealing = c.self.invariant.sealing_is ∙ ap seal_key c.self.view_is in
    let is = plain_is (profile_of own.key) new c.tag_len.result c.tag_len.ensures.value
    (omega (arith, c.open_in_place.ensures.length, c.requires, c.tag_len.ensures.value, ap (λ (u : UsageKeyValue). (profile_of u.key).tag_len) sealing)) in
    let opens = if_ok c.open_in_place.result (Opens (profile_of own.key) own.key.bytes own.usage body (drop 16 (body_of (profile_of own.key) new)))
    _ (sym c.ok.ensures.value ∙ c.in_ok-ok.was) c.open_in_place.ensures.opened in
    subst (OpensBy body (plain_in new c.tag_len.result)) sealing (subst (Opens (profile_of own.key) own.key.bytes own.usage body) is opens)

pub returns-clause-found : goal.returns-clause-found
returns-clause-found c =
    let plain : List ℕ = plain_in c.open_in_place.new.text c.tag_len.result in
    let new = c.open_in_place.new.text in
    let header = c.args.header in
    IfSome_then c.text_before.result c.text_before.ensures.found (λ size it.
    let within : size ≤ length new - c.tag_len.result - 16 = omega (arith, it.0, length-take (length new - c.tag_len.result - 16) (drop 16 new)) in
    let text : take size (drop 16 new) ≡ take size plain = sym (take-take size (length new - c.tag_len.result - 16) (drop 16 new) within) in (
      record {
        filler = take header.extra (drop size plain);
        size = length-take-le header.extra (drop size plain) (omega (arith, it.0, length-drop size plain));
        opens = subst (λ (t : List ℕ). OpensBy c.args.body.now t (seal_key c.args.self.now))
            (plain_parts plain (wrap_header header.flags header.extra 0 header.number) size header.extra it.0 it.1
            ∙ ap (λ (t : List ℕ). t ++ (take header.extra (drop size plain) ++ wrap_header header.flags header.extra 0 header.number)) (sym text))
            (opened c);
      },
      omega (arith, within, it.0, length-take (length new - c.tag_len.result - 16) (drop 16 new), length-drop 16 new),
    ))

pub returns-clause-none : goal.returns-clause-none
returns-clause-none c none text o =
    let self = c.args.self.now in
    let plain : List ℕ = plain_in c.open_in_place.new.text c.tag_len.result in
    let header : List ℕ = wrap_header c.args.header.flags c.args.header.extra 0 c.args.header.number in
    let same : plain ≡ text ++ (o.filler ++ header) =
    one_plain (profile_of self.key) self.key.bytes (seal_usage self.side) c.args.body.now plain (text ++ (o.filler ++ header)) (known_profile self.key) (opened c) o.opens in
    c.text_before.ensures.none none (header_at_end plain text o.filler header refl same)
