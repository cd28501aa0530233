-- Where a context stands after the MICs of a list.
use Rattle.std.proofs.Common.{◌≡◌, ◌∙◌, ◌<◌, ◌^◌, ℕ, List, [], ◌∷◌, Bool, Option, Some, None, Vec, IsTrue, sym, ap, subst}
use Rattle.std.specs.Prelude.{IsSomeAnd}
use Rattle.std.specs.declared.alloc.Global.{Global}
use Rattle.krb_context.specs.Context.{HasSentFirst, IsBegun, State, Takes, first_of, number_after}
use Rattle.krb_context.specs.Sequence.{IsOrder, Known, Stands}
use Rattle.krb_context.specs.Side.{peer_of}
use Rattle.krb_context.specs.declared.agreed.Agreed.{Agreed}
use Rattle.krb_context.specs.declared.agreed.Options.{Options}
use Rattle.krb_context.specs.declared.order.Order.{Order}
use Rattle.krb_context.specs.declared.order.Order.TheVariants.{Next}
use Rattle.krb_context.specs.declared.role.Role.{Role}
use Rattle.krb_gss.specs.declared.list_mic.Reply.{Reply}
use Rattle.krb_talk.specs.ListMic.{Marks, MarksIn, Shows}

-- the number of a message that a side takes in order is the first one, if it has taken none
first_taken : (agreed : Agreed) (role : Role) (begun taken : State) (number : ℕ) (order : Order) → IsBegun agreed role begun
    → IsTrue begun.options.is_in_order → Takes begun number order taken → number ≡ first_of agreed (peer_of role)
first_taken agreed role begun taken number order at strict it =
    let is_next : order ≡ Next = it.may.in_order strict in
    subst (λ (o : Order). IsOrder (first_of agreed (peer_of role)) [] number o) is_next (it.has_order _ [] at.took)

-- a side that took the first message stands for it
takes_first : (agreed : Agreed) (role : Role) (begun taken : State) (number : ℕ) (order : Order) → IsBegun agreed role begun
    → IsTrue begun.options.is_in_order → Takes begun number order taken
    → Stands taken.window (first_of agreed (peer_of role)) (first_of agreed (peer_of role) ∷ [])
takes_first agreed role begun taken number order at strict it =
    subst (λ (n : ℕ). Stands taken.window (first_of agreed (peer_of role)) (n ∷ [])) (first_taken agreed role begun taken number order at strict it)
    (it.taken _ [] at.took)

same_number : (one other : ℕ) (next : Option ℕ) → next ≡ Some one → next ≡ Some other → one ≡ other
same_number one other next a b = cc

-- it takes the other side's first message, and then sends its own
pub taken_then_sent : (agreed : Agreed) (role : Role) (list mic own : List ℕ) (begun taken last : State) → IsBegun agreed role begun
    → IsTrue begun.options.is_in_order → Shows list mic begun taken → Marks list taken own last → HasSentFirst agreed role last
taken_then_sent agreed role list mic own begun taken last at strict shows marks =
    let it = shows.takes in
    let next : taken.next ≡ Some (first_of agreed role) = ap (λ (s : State). s.next) it.rest ∙ at.next_is in
    let number : marks.number ≡ first_of agreed role = same_number _ _ taken.next marks.next next in
    let options : last.options ≡ begun.options = ap (λ (s : State). s.options) marks.new_is ∙ ap (λ (s : State). s.options) it.rest in
    let window : last.window ≡ taken.window = ap (λ (s : State). s.window) marks.new_is in
    record {
      sender_is = ap (λ (s : State). s.sender) marks.new_is ∙ (ap (λ (s : State). s.sender) it.rest ∙ at.sender_is);
      next_is = ap (λ (s : State). s.next) marks.new_is ∙ ap number_after number;
      rotation_fits = subst (λ (o : Options). o.rotation < 2 ^ 16) (sym options) at.rotation_fits;
      took = subst (λ (w : Known). Stands w (first_of agreed (peer_of role)) (first_of agreed (peer_of role) ∷ [])) (sym window)
          (takes_first agreed role begun taken shows.number shows.order at strict it);
    }

-- it sends its own, and then takes the other side's
pub sent_then_taken : (agreed : Agreed) (role : Role) (list mic own : List ℕ) (begun sent last : State) → IsBegun agreed role begun
    → IsTrue begun.options.is_in_order → Marks list begun own sent → Shows list mic sent last → HasSentFirst agreed role last
sent_then_taken agreed role list mic own begun sent last at strict marks shows =
    let it = shows.takes in
    let number : marks.number ≡ first_of agreed role = same_number _ _ begun.next marks.next at.next_is in
    let options : sent.options ≡ begun.options = ap (λ (s : State). s.options) marks.new_is in
    let window : sent.window ≡ begun.window = ap (λ (s : State). s.window) marks.new_is in
    let took : Stands sent.window (first_of agreed (peer_of role)) [] =
    subst (λ (w : Known). Stands w (first_of agreed (peer_of role)) []) (sym window) at.took in
    let is_next : shows.order ≡ Next = it.may.in_order (subst (λ (o : Options). IsTrue o.is_in_order) (sym options) strict) in
    let first : shows.number ≡ first_of agreed (peer_of role) =
    subst (λ (o : Order). IsOrder (first_of agreed (peer_of role)) [] shows.number o) is_next (it.has_order _ [] took) in
    record {
      sender_is = ap (λ (s : State). s.sender) it.rest ∙ (ap (λ (s : State). s.sender) marks.new_is ∙ at.sender_is);
      next_is = ap (λ (s : State). s.next) it.rest ∙ (ap (λ (s : State). s.next) marks.new_is ∙ ap number_after number);
      rotation_fits = subst (λ (o : Options). o.rotation < 2 ^ 16) (sym (ap (λ (s : State). s.options) it.rest ∙ options)) at.rotation_fits;
      took = subst (λ (n : ℕ). Stands last.window (first_of agreed (peer_of role)) (n ∷ [])) first (it.taken _ [] took);
    }

-- what went back, if anything did, has the MIC
pub marks_in : (list : List ℕ) (is_completed : Bool) (Replies : Option Reply → Type 0) (old new : State) (answer : Option (Vec ℕ Global))
    → IsSomeAnd answer (λ sent. MarksIn list is_completed Replies old new sent.items) → (own : List ℕ) × Marks list old own new
marks_in list is_completed Replies old new None it = absurd it
marks_in list is_completed Replies old new (Some sent) it = (it.mic, it.marks)
