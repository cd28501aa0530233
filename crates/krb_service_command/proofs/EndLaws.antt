-- How `accept` ends.
use Rattle.std.proofs.Common.{◌≡◌, inl, inr, ℕ, ℤ, List, [], ◌∷◌, ◌++◌, Option, Some, None, length, ap, sym, refl, ◌∙◌, subst, append_assoc, append-nil, arith, ◌<◌}
use Rattle.std.specs.Io.KnownBytes.{Consumes, IsAtEnd}
use Rattle.std.proofs.KnownBytes.{Appends-nil}
use Rattle.krb_service_command.specs.declared.accept.AnswerOptions.{AnswerOptions}
use Rattle.krb_service_command.specs.declared.accept.Session.{Session}
use Rattle.krb_replay.specs.Stamp.{Stamp}
use Rattle.krb_ap.specs.Setup.{Setup, Arrival}
use Rattle.krb_ap.specs.History.{StandsFor}
use Rattle.krb_ap.specs.Service.{Service}
use Rattle.krb_service_command.specs.Answering.{AnswersAll, AnswersBeginning, AnswersWhole, BecomeInTurn, HasLines, input_limit, last_line}
use Rattle.krb_service_command.specs.Inner.Going.{Answered, Begun, ReachedEnd, ReachedInput, ReachedStop, Start, Stays}
use Rattle.krb_service_command.proofs.GoingLaws.{all_begun, become_on, begun_on, no_lines, printed_on, status_on}

-- ---- what a source gave

pub record Left (input came : List ℕ) (to : Option (List ℕ)) : Type 0 where
  pub left : List ℕ
  pub input_is : input ≡ came ++ left
  pub to_is : to ≡ Some left

left_of : (input came : List ℕ) (to : Option (List ℕ)) → Consumes (Some input) to came → Left input came to
left_of input came None consumed = absurd consumed
left_of input came (Some left) consumed = record { left = left; input_is = consumed; to_is = refl }

pub left_by : (input came : List ℕ) (from to : Option (List ℕ)) → from ≡ Some input → Consumes from to came → Left input came to
left_by input came from to is consumed = left_of input came to (subst (λ (f : Option (List ℕ)). Consumes f to came) is consumed)

all_of : (input came : List ℕ) (to : Option (List ℕ)) → Consumes (Some input) to came → IsAtEnd to → input ≡ came
all_of input came None consumed end = absurd consumed
all_of input came (Some left) consumed end = consumed ∙ ap (λ (l : List ℕ). came ++ l) end ∙ append-nil came

pub all_by : (input came : List ℕ) (from to : Option (List ℕ)) → from ≡ Some input → Consumes from to came → IsAtEnd to → input ≡ came
all_by input came from to is consumed end = all_of input came to (subst (λ (f : Option (List ℕ)). Consumes f to came) is consumed) end

-- ---- the last line

no_last : (lines : List (List ℕ)) (rest : List ℕ) → rest ≡ [] → lines ++ last_line rest ≡ lines
no_last lines rest is = ap (λ (r : List ℕ). lines ++ last_line r) is ∙ append-nil lines

one_last : (lines : List (List ℕ)) (rest : List ℕ) → (rest ≡ [] → ⊥) → lines ++ last_line rest ≡ lines ++ rest ∷ []
one_last lines [] some = absurd (some refl)
one_last lines (byte ∷ rest) some = refl

-- the same, as it was at first
stands_by : {here setup : Setup} {Has : Stamp → Type 0} {latest : Option ℤ} {history : List Arrival} → here ≡ setup → StandsFor here Has latest history
    → StandsFor setup Has latest history
stands_by {Has = Has} {latest = latest} {history = history} is stands = subst (λ (s : Setup). StandsFor s Has latest history) is stands

module _ {M : Type 0} {has : M → Stamp → Type 0} {newest : M → Option ℤ} {start : Start} {from to : Option (List ℕ)} {session : Session}
    {service : Service M} {taken : Option (List ℕ)} {input : List ℕ} (tells : from ≡ Some input) where
  -- ---- at the end of the source

  module _ (ended : ReachedEnd has newest start from to session service taken) where
    input_parts : HasLines input ended.reached.going.lines ended.reached.going.rest
    input_parts = subst (λ (i : List ℕ). HasLines i ended.reached.going.lines ended.reached.going.rest)
        (sym (all_by input ended.reached.came from to tells ended.reached.consumed ended.end)) ended.reached.going.parts

    input_below : length input < input_limit
    input_below = omega (arith, ap (λ (i : List ℕ). length i) (all_by input ended.reached.came from to tells ended.reached.consumed ended.end), ended.reached.counted, ended.limit)

    -- there is no last line
    pub all_answered : ended.reached.going.rest ≡ [] → AnswersAll start.options start.setup start.history input session.status start.taken taken
        (has service.memory) (newest service.memory)
    all_answered none = record {
      lines = ended.reached.going.lines;
      rest = ended.reached.going.rest;
      outcomes = ended.reached.going.outcomes;
      end = ended.reached.going.end;
      parts = input_parts;
      become = subst (λ (l : List (List ℕ)). BecomeInTurn start.options start.setup start.history l ended.reached.going.outcomes ended.reached.going.end)
          (sym (no_last ended.reached.going.lines ended.reached.going.rest none)) ended.reached.going.become;
      printed = ended.reached.going.printed;
      status_is = ended.reached.going.status_is;
      limit = input_below;
      stands = stands_by ended.reached.going.setup_is ended.reached.going.stands;
    }

    -- the last line was answered
    pub last_answered : {new : Session} {next : Service M} {last : Option (List ℕ)} → (ended.reached.going.rest ≡ [] → ⊥) → Stays session new service next
        → Answered has newest session new service next ended.reached.going.end ended.reached.going.rest taken last
        → AnswersAll start.options start.setup start.history input new.status start.taken last (has next.memory) (newest next.memory)
    last_answered {last = last} some stays one = record {
      lines = ended.reached.going.lines;
      rest = ended.reached.going.rest;
      outcomes = ended.reached.going.outcomes ++ one.outcome ∷ [];
      end = one.of_line.end;
      parts = input_parts;
      become = subst (λ (l : List (List ℕ)). BecomeInTurn start.options start.setup start.history l (ended.reached.going.outcomes ++ one.outcome ∷ []) one.of_line.end)
          (sym (one_last ended.reached.going.lines ended.reached.going.rest some))
          (become_on ended.reached.going (ended.reached.going.rest ∷ []) (one.outcome ∷ []) one.of_line.end (one.of_line.end, (one.of_line.becomes, refl)));
      printed = printed_on ended.reached.going last one.outcome one.printed;
      status_is = status_on ended.reached.going one.outcome one.status_is;
      limit = input_below;
      stands = stands_by (stays.setup ∙ ended.reached.going.setup_is) one.of_line.stands;
    }

    -- it wasn't, or not whole
    pub last_begun : {new : Session} {next : Service M} {last : Option (List ℕ)} → (ended.reached.going.rest ≡ [] → ⊥) → Stays session new service next
        → Begun has newest session.options service next ended.reached.going.end ended.reached.going.rest taken last
        → AnswersBeginning start.options start.setup start.history input start.taken last (has next.memory) (newest next.memory)
    last_begun some stays begun = record {
      taken = ended.reached.going.lines ++ begun.lines;
      outcomes = ended.reached.going.outcomes ++ begun.outcomes;
      end = begun.end;
      takes = record {
        came = input;
        left = [];
        lines = ended.reached.going.lines;
        rest = ended.reached.going.rest;
        input_is = sym (append-nil input);
        parts = input_parts;
        taken_are = elim begun.lines_are [
          | inl none ↦ inl (ap (λ (l : List (List ℕ)). ended.reached.going.lines ++ l) none ∙ append-nil ended.reached.going.lines)
          | inr one ↦ inr (refl, ap (λ (l : List (List ℕ)). ended.reached.going.lines ++ l) one ∙ sym (one_last ended.reached.going.lines ended.reached.going.rest some))
        ];
      };
      become = become_on ended.reached.going begun.lines begun.outcomes begun.end begun.become;
      printed = begun_on ended.reached.going begun.outcomes begun.printed;
      stands = stands_by (stays.setup ∙ ended.reached.going.setup_is) begun.stands;
    }

  -- ---- before the end

  pub whole_answered : {old_failures new_failures : ℕ} → ReachedInput has newest start from to old_failures new_failures session service taken
      → AnswersWhole start.options start.setup start.history input to old_failures new_failures start.taken taken
      (has service.memory) (newest service.memory)
  whole_answered stops =
      let rest = left_by input stops.reached.came from to tells stops.reached.consumed in
      record {
        came = stops.reached.came;
        left = rest.left;
        lines = stops.reached.going.lines;
        rest = stops.reached.going.rest;
        outcomes = stops.reached.going.outcomes;
        end = stops.reached.going.end;
        input_is = rest.input_is;
        unread_is = rest.to_is;
        why = elim stops.why [ inl failed ↦ inl failed | inr full ↦ inr (stops.reached.counted ∙ full) ];
        parts = stops.reached.going.parts;
        become = stops.reached.going.become;
        printed = stops.reached.going.printed;
        stands = stands_by stops.reached.going.setup_is stops.reached.going.stands;
      }

pub stop_begun : {M : Type 0} {has : M → Stamp → Type 0} {newest : M → Option ℤ} {start : Start} {from to : Option (List ℕ)} {service : Service M}
    {taken : Option (List ℕ)} {input : List ℕ} → from ≡ Some input → ReachedStop has newest start from to service taken
    → AnswersBeginning start.options start.setup start.history input start.taken taken (has service.memory) (newest service.memory)
stop_begun {from = from} {to = to} {input = input} tells stops =
    let rest = left_by input stops.came from to tells stops.consumed in
    record {
      taken = stops.stopped.lines;
      outcomes = stops.stopped.outcomes;
      end = stops.stopped.end;
      takes = record {
        came = stops.stopped.first;
        left = stops.stopped.left ++ rest.left;
        lines = stops.stopped.lines;
        rest = stops.stopped.rest;
        input_is = rest.input_is ∙ ap (λ (l : List ℕ). l ++ rest.left) stops.stopped.came_is ∙ append_assoc stops.stopped.first stops.stopped.left rest.left;
        parts = stops.stopped.parts;
        taken_are = inl refl;
      };
      become = stops.stopped.become;
      printed = stops.stopped.printed;
      stands = stands_by stops.stopped.setup_is stops.stopped.stands;
    }

pub none_begun : (options : AnswerOptions) (setup : Setup) (history : List Arrival) (known : Option (List ℕ)) (Has : Stamp → Type 0) (latest : Option ℤ) (input : List ℕ)
    → StandsFor setup Has latest history → AnswersBeginning options setup history input known known Has latest
none_begun options setup history known Has latest input stands = record {
  taken = [];
  outcomes = [];
  end = history;
  takes = record { came = []; left = input; lines = []; rest = []; input_is = refl; parts = no_lines; taken_are = inl refl };
  become = refl;
  printed = all_begun known known [] (Appends-nil known);
  stands = stands;
}
