use Rattle.std.proofs.Common.{◌≡◌, ◌∙◌, ◌<◌, ◌+◌, ◌++◌, ℕ, List, Bool, length, take, drop, refl, sym, ap, ap₂, subst, arith}
use Rattle.std.proofs.lemmas.List.{drop-drop, length-drop}
use Rattle.std.proofs.Math.Seq.{drop-append_seam}
use Rattle.krb_context.specs.Wrap.{IsWrap}
use Rattle.krb_context.specs.Inner.Forms.{Holds}
use Rattle.krb_context.proofs.Rotations.{turned_back}
use Rattle.krb_context.proofs.Unwraps.{has_no_fault, is_token, find, form_of, one_text, some_room}
use Rattle.krb_context.proofs.direction.Direction.unwrap.Goals as goal

pub returns-in_err-header-clause-found : goal.returns-in_err-header-clause-found
returns-in_err-header-clause-found c is_sealed number text w =
    absurd (has_no_fault c.args.self.now is_sealed number text c.args.token.now w _ c.in_err-header.ensures.fault)

-- the body that is opened is what comes after the header, turned back
none_held : (c : goal.After-slice_known-in_default-2-1) (is_sealed : Bool) (number : ℕ) (text : List ℕ) → IsWrap c.args.self.now is_sealed number text c.args.token.now → ⊥
none_held c is_sealed number text w =
    let header = c.in_ok-header.header in
    let token = c.args.token.now in
    let found = find c.args.self.now token text header is_sealed number c.in_ok-header.ensures.form (omega arith) (omega arith) (omega arith) w in
    let body : c.rotate_left.new.self ≡ turned_back header.rotation (drop 16 token) =
    c.rotate_left.ensures.after ∙ ap₂ (λ (r : ℕ) (t : List ℕ). turned_back r t) c.from.ensures c.split_at_mut-body.ensures.back in
    c.in_default.ensures.none refl text (subst (λ (t : List ℕ). Holds c.args.self.now header t text) (sym body) found.holds)

pub returns-in_default-clause-found : goal.returns-in_default-clause-found
returns-in_default-clause-found c is_sealed number text w = absurd (none_held c is_sealed number text w)

pub returns-in_default-clause-fault : goal.returns-in_default-clause-fault
returns-in_default-clause-fault c =
    let header = c.in_ok-header.header in
    let form = c.in_ok-header.ensures.form in
    (header.flags, form_of c.args.self.now c.args.token.now header form (omega arith) (omega arith) (omega arith), form.has_flags, none_held c)

-- the body that was opened, and the text where it stands in the token
holds : (c : goal.After-struct_known-2-1) → Holds c.args.self.now c.in_ok-header.header (turned_back c.in_ok-header.header.rotation (drop 16 c.args.token.now))
    (take c.in-Some.place.len (drop (16 + c.in-Some.place.start) (c.split_at_mut-body.result.0.now ++ c.opened.new.body)))
holds c =
    let header = c.in_ok-header.header in
    let front = c.split_at_mut-body.result.0.now in
    let new = c.opened.new.body in
    let start = c.in-Some.place.start in
    let body : c.rotate_left.new.self ≡ turned_back header.rotation (drop 16 c.args.token.now) =
    c.rotate_left.ensures.after ∙ ap₂ (λ (r : ℕ) (t : List ℕ). turned_back r t) c.from.ensures c.split_at_mut-body.ensures.back in
    let at : drop start new ≡ drop (16 + start) (front ++ new) =
    ap (λ (t : List ℕ). drop start t) (sym (ap (λ (n : ℕ). drop n (front ++ new)) (sym c.split_at_mut-body.ensures.front_len) ∙ drop-append_seam front new))
    ∙ drop-drop start 16 (front ++ new) in
    subst (λ (t : List ℕ). Holds c.args.self.now header t (take c.in-Some.place.len (drop (16 + start) (front ++ new)))) body
    (subst (λ (t : List ℕ). Holds c.args.self.now header c.rotate_left.new.self (take c.in-Some.place.len t)) at c.in-Some.ensures.found)

pub returns-clause-ok : goal.returns-clause-ok
returns-clause-ok c =
    let header = c.in_ok-header.header in
    let formed = c.in_ok-header.ensures.form in
    let some : 0 < length (drop 16 c.args.token.now) =
    subst (λ (n : ℕ). 0 < n) (sym (length-drop 16 c.args.token.now)) (some_room c.args.self.now header.flags header.extra _ formed.has_room) in
    is_token c.args.self.now c.args.token.now _ header formed some (omega arith) (omega arith) (omega arith) (holds c)

pub returns-clause-found : goal.returns-clause-found
returns-clause-found c is_sealed number text w =
    let header = c.in_ok-header.header in
    let found = find c.args.self.now c.args.token.now text header is_sealed number c.in_ok-header.ensures.form (omega arith) (omega arith) (omega arith) w in
    (found.kind, found.number_is, one_text c.args.self.now header _ _ text (holds c) found.holds)
