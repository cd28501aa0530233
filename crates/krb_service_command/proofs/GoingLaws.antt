-- How far `accept` is, some bytes and one line on.
use Rattle.std.proofs.Common.{◌≡◌, ◌≢◌, ℕ, ℤ, inl, inr, max, List, [], ◌∷◌, ◌++◌, Option, length, take, ap, sym, refl, ◌∙◌, subst, append_assoc, append-nil, All, arith, ◌+◌, ◌≤◌, suc, zero}
use Rattle.std.specs.List.{flat_map}
use Rattle.std.specs.Io.KnownBytes.{Appends, Consumes, Keeps}
use Rattle.std.proofs.KnownBytes.{Appends-nil, Appends-trans, Consumes-trans, Consumes-kept}
use Rattle.std.proofs.lemmas.Grind.{flat_map-append}
use Rattle.std.proofs.lemmas.List.Concat.{flat_map-cons}
use Rattle.std.proofs.lemmas.List.{length-append, length-take}
use Rattle.std.proofs.lemmas.List.Elements.{All-append}
use Rattle.krb_file.specs.File.{TakesAtMost}
use Rattle.krb_file.specs.Flow.{AppendsBeginning}
use Rattle.krb_replay.specs.Stamp.{Stamp}
use Rattle.krb_ap.specs.Setup.{Setup, Arrival}
use Rattle.krb_ap.specs.Service.{Service, Stands}
use Rattle.krb_service_command.specs.Answering.{BecomeInTurn, Came, HasLines, PrintsBeginning, answer_line, answer_lines, ended, input_limit, outcome_status, status_of_lines}
use Rattle.krb_call_lines.specs.Inner.Held.{Holds}
use Rattle.krb_service_command.specs.Inner.Going.{Answered, BecomesOf, Begun, Going, Reached, ReachedStop, Start, Stays, Stopped}
use Rattle.krb_service_command.specs.declared.accept.AnswerOptions.{AnswerOptions}
use Rattle.krb_service_command.specs.declared.accept.Session.{Session}
use Rattle.krb_service_command.specs.declared.answering.LineOutcome.{LineOutcome}
use Rattle.krb_call_lines.specs.declared.part_line.PartLine.{PartLine}

-- ---- lists

flat_map-push : {X : Type 0} (f : X → List ℕ) (xs : List X) (x : X) → flat_map f (xs ++ x ∷ []) ≡ flat_map f xs ++ f x
flat_map-push f xs x = flat_map-append f xs (x ∷ []) ∙ ap (λ (l : List ℕ). flat_map f xs ++ l) (flat_map-cons f x [] ∙ append-nil (f x))

All-push : {X : Type 0} (P : X → Type 0) (xs : List X) (x : X) → All P xs → P x → All P (xs ++ x ∷ [])
All-push P [] x all one zero d below = one
All-push P [] x all one (suc k) d below = absurd (omega (arith, below))
All-push P (y ∷ ys) x all one zero d below = all 0 d (omega arith)
All-push P (y ∷ ys) x all one (suc k) d below = All-push P ys x (λ j e l. all (suc j) e (omega (arith, l))) one k d (omega (arith, below))

-- ---- lines

pub no_lines : HasLines [] [] []
no_lines = record { bytes_are = refl; plain = λ k d below. absurd (omega (arith, below)); plain_rest = λ k d below. absurd (omega (arith, below)) }

rest_more : (bytes more : List ℕ) (lines : List (List ℕ)) (rest : List ℕ) → All (λ b. b ≢ 10) more → HasLines bytes lines rest
    → HasLines (bytes ++ more) lines (rest ++ more)
rest_more bytes more lines rest others parts = record {
  bytes_are = ap (λ (l : List ℕ). l ++ more) parts.bytes_are ∙ append_assoc (flat_map ended lines) rest more;
  plain = parts.plain;
  plain_rest = All-append (λ b. b ≢ 10) rest more parts.plain_rest others;
}

line_ended : (bytes : List ℕ) (lines : List (List ℕ)) (rest : List ℕ) → HasLines bytes lines rest → HasLines (bytes ++ 10 ∷ []) (lines ++ rest ∷ []) []
line_ended bytes lines rest parts = record {
  bytes_are = ap (λ (l : List ℕ). l ++ 10 ∷ []) parts.bytes_are ∙ append_assoc (flat_map ended lines) rest (10 ∷ [])
      ∙ sym (flat_map-push ended lines rest) ∙ sym (append-nil (flat_map ended (lines ++ rest ∷ [])));
  plain = All-push (All (λ b. b ≢ 10)) lines rest parts.plain parts.plain_rest;
  plain_rest = λ k d below. absurd (omega (arith, below));
}

-- ---- outcomes

become_more : (options : AnswerOptions) (setup : Setup) (history mid end : List Arrival) (lines more : List (List ℕ)) (outcomes others : List LineOutcome)
    → BecomeInTurn options setup history lines outcomes mid → BecomeInTurn options setup mid more others end
    → BecomeInTurn options setup history (lines ++ more) (outcomes ++ others) end
become_more options setup history mid end [] more [] others turn next = subst (λ (h : List Arrival). BecomeInTurn options setup h more others end) turn next
become_more options setup history mid end (l ∷ ls) more (o ∷ os) others turn next = (turn.0, (turn.1.0, become_more options setup turn.0 mid end ls more os others turn.1.1 next))
become_more options setup history mid end [] more (o ∷ os) others turn next = absurd turn
become_more options setup history mid end (l ∷ ls) more [] others turn next = absurd turn

status_push : (outcomes : List LineOutcome) (outcome : LineOutcome) → status_of_lines (outcomes ++ outcome ∷ []) ≡ max (status_of_lines outcomes) (outcome_status outcome)
status_push [] outcome = omega arith
status_push (o ∷ os) outcome = ap (max (outcome_status o)) (status_push os outcome) ∙ omega arith

-- all answers, and nothing of another
pub all_begun : (old new : Option (List ℕ)) (outcomes : List LineOutcome) → Appends old new (answer_lines outcomes) → PrintsBeginning old new outcomes
all_begun old new outcomes printed = record {
  whole = outcomes;
  last = [];
  outcomes_are = sym (append-nil outcomes);
  one = omega arith;
  count = 0;
  printed = subst (Appends old new) (sym (append-nil (answer_lines outcomes))) printed;
}

-- a beginning of one
one_begun : (old new : Option (List ℕ)) (outcome : LineOutcome) → AppendsBeginning old new (answer_line outcome) → PrintsBeginning old new (outcome ∷ [])
one_begun old new outcome begun = record {
  whole = [];
  last = outcome ∷ [];
  outcomes_are = refl;
  one = omega arith;
  count = begun.0;
  printed = subst (λ (l : List ℕ). Appends old new (take begun.0 l)) (sym (flat_map-cons answer_line outcome [] ∙ append-nil (answer_line outcome))) begun.1;
}

-- all answers, and those of others up to some byte of the last
begun_more : (old mid new : Option (List ℕ)) (outcomes others : List LineOutcome) → Appends old mid (answer_lines outcomes)
    → PrintsBeginning mid new others → PrintsBeginning old new (outcomes ++ others)
begun_more old mid new outcomes others printed begun =
    let next : List ℕ = take begun.count (answer_lines begun.last) in
    record {
      whole = outcomes ++ begun.whole;
      last = begun.last;
      outcomes_are = ap (λ (l : List LineOutcome). outcomes ++ l) begun.outcomes_are ∙ sym (append_assoc outcomes begun.whole begun.last);
      one = begun.one;
      count = begun.count;
      printed = subst (Appends old new)
          (sym (append_assoc (answer_lines outcomes) (answer_lines begun.whole) next) ∙ ap (λ (l : List ℕ). l ++ next) (sym (flat_map-append answer_line outcomes begun.whole)))
          (Appends-trans old mid new (answer_lines outcomes) (answer_lines begun.whole ++ next) printed begun.printed);
    }

pub stays_on : {M : Type 0} {old mid new : Session} {service then next : Service M} → Stays old mid service then → Stays mid new then next
    → Stays old new service next
stays_on first second = record {
  setup = second.setup ∙ first.setup;
  options = second.options ∙ first.options;
  known = λ before. second.known (first.known before);
  ran = λ before. second.ran (first.ran before);
}

module _ {M : Type 0} {has : M → Stamp → Type 0} {newest : M → Option ℤ} where
  -- ---- a line

  pub none_begun : {options : AnswerOptions} {service next : Service M} {history : List Arrival} {line : List ℕ} {known : Option (List ℕ)}
      → Stands has newest next history → Begun has newest options service next history line known known
  none_begun {history = history} {known = known} stands = record {
    lines = [];
    lines_are = inl refl;
    outcomes = [];
    end = history;
    become = refl;
    printed = all_begun known known [] (Appends-nil known);
    stands = stands;
  }

  pub line_begun : {options : AnswerOptions} {service next : Service M} {history : List Arrival} {line : List ℕ} {Old New : Option (List ℕ)}
      {outcome : LineOutcome} → BecomesOf has newest options service next history line outcome → AppendsBeginning Old New (answer_line outcome)
      → Begun has newest options service next history line Old New
  line_begun {line = line} {Old = Old} {New = New} {outcome = outcome} of_line begun = record {
    lines = line ∷ [];
    lines_are = inr refl;
    outcomes = outcome ∷ [];
    end = of_line.end;
    become = (of_line.end, (of_line.becomes, refl));
    printed = one_begun Old New outcome begun;
    stands = of_line.stands;
  }

  -- ---- going on

  pub going_start : (history : List Arrival) (session : Session) (service : Service M) (known : Option (List ℕ)) → Holds session.part [] → session.status ≡ 0
      → Stands has newest service history
      → Going has newest (record { options = session.options; setup = service.setup; history = history; taken = known }) [] session service known
  going_start history session service known holds status_is stands = record {
    rest = [];
    holds = holds;
    lines = [];
    outcomes = [];
    end = history;
    parts = no_lines;
    become = refl;
    printed = Appends-nil known;
    status_is = status_is;
    stands = stands;
    setup_is = refl;
    options_are = refl;
  }

  module _ {start : Start} {came : List ℕ} {old : Session} {service : Service M} {mid : Option (List ℕ)}
      (going : Going has newest start came old service mid) where
    pub become_on : (lines : List (List ℕ)) (outcomes : List LineOutcome) (end : List Arrival)
        → BecomeInTurn old.options service.setup going.end lines outcomes end
        → BecomeInTurn start.options start.setup start.history (going.lines ++ lines) (going.outcomes ++ outcomes) end
    become_on lines outcomes end become = become_more start.options start.setup start.history going.end end going.lines lines going.outcomes outcomes going.become
        (subst (λ o. BecomeInTurn o start.setup going.end lines outcomes end) going.options_are
        (subst (λ s. BecomeInTurn old.options s going.end lines outcomes end) going.setup_is become))

    pub begun_on : {new : Option (List ℕ)} (outcomes : List LineOutcome) → PrintsBeginning mid new outcomes → PrintsBeginning start.taken new (going.outcomes ++ outcomes)
    begun_on {new = new} outcomes begun = begun_more start.taken mid new going.outcomes outcomes going.printed begun

    pub printed_on : (new : Option (List ℕ)) (outcome : LineOutcome) → Appends mid new (answer_line outcome) → Appends start.taken new (answer_lines (going.outcomes ++ outcome ∷ []))
    printed_on new outcome printed = subst (Appends start.taken new) (sym (flat_map-push answer_line going.outcomes outcome))
        (Appends-trans start.taken mid new (answer_lines going.outcomes) (answer_line outcome) going.printed printed)

    pub status_on : {status : ℕ} (outcome : LineOutcome) → status ≡ max old.status (outcome_status outcome) → status ≡ status_of_lines (going.outcomes ++ outcome ∷ [])
    status_on outcome is = omega (arith, going.status_is, is, status_push going.outcomes outcome)

    pub going_bytes : (part : PartLine) (bytes : List ℕ) → All (λ b. b ≢ 10) bytes → ((line : List ℕ) → Holds old.part line → Holds part (line ++ bytes))
        → Going has newest start (came ++ bytes) (record old { part = part }) service mid
    going_bytes part bytes others held = record {
      rest = going.rest ++ bytes;
      holds = held going.rest going.holds;
      lines = going.lines;
      outcomes = going.outcomes;
      end = going.end;
      parts = rest_more came bytes going.lines going.rest others going.parts;
      become = going.become;
      printed = going.printed;
      status_is = going.status_is;
      stands = going.stands;
      setup_is = going.setup_is;
      options_are = going.options_are;
    }

    pub going_line : {new : Session} {next : Service M} {taken : Option (List ℕ)} (part : PartLine) → Holds part [] → Stays old new service next
        → Answered has newest old new service next going.end going.rest mid taken
        → Going has newest start (came ++ 10 ∷ []) (record new { part = part }) next taken
    going_line {taken = taken} part held stays one = record {
      rest = [];
      holds = held;
      lines = going.lines ++ going.rest ∷ [];
      outcomes = going.outcomes ++ one.outcome ∷ [];
      end = one.of_line.end;
      parts = line_ended came going.lines going.rest going.parts;
      become = become_on (going.rest ∷ []) (one.outcome ∷ []) one.of_line.end (one.of_line.end, (one.of_line.becomes, refl));
      printed = printed_on taken one.outcome one.printed;
      status_is = status_on one.outcome one.status_is;
      stands = one.of_line.stands;
      setup_is = stays.setup ∙ going.setup_is;
      options_are = stays.options ∙ going.options_are;
    }

    -- ---- stopping

    pub stopped_before : (more : List ℕ) → Stopped has newest start (came ++ more) service mid
    stopped_before more = record {
      first = came;
      left = more;
      lines = going.lines;
      rest = going.rest;
      outcomes = going.outcomes;
      end = going.end;
      came_is = refl;
      parts = going.parts;
      become = going.become;
      printed = all_begun start.taken mid going.outcomes going.printed;
      stands = going.stands;
      setup_is = going.setup_is;
    }

    pub stopped_within : {new : Session} {next : Service M} {taken : Option (List ℕ)} → Stays old new service next
        → Begun has newest old.options service next going.end going.rest mid taken → Stopped has newest start (came ++ 10 ∷ []) next taken
    stopped_within {next = next} {taken = taken} stays begun =
        let stopped : (first left rest : List ℕ) → came ++ 10 ∷ [] ≡ first ++ left → HasLines first (going.lines ++ begun.lines) rest
        → Stopped has newest start (came ++ 10 ∷ []) next taken = λ first left rest came_is parts. record {
          first = first;
          left = left;
          lines = going.lines ++ begun.lines;
          rest = rest;
          outcomes = going.outcomes ++ begun.outcomes;
          end = begun.end;
          came_is = came_is;
          parts = parts;
          become = become_on begun.lines begun.outcomes begun.end begun.become;
          printed = begun_on begun.outcomes begun.printed;
          stands = begun.stands;
          setup_is = stays.setup ∙ going.setup_is;
        } in
        elim begun.lines_are [
          | inl none ↦ stopped came (10 ∷ []) going.rest refl
              (subst (λ l. HasLines came l going.rest) (sym (ap (λ l. going.lines ++ l) none ∙ append-nil going.lines)) going.parts)
          | inr one ↦ stopped (came ++ 10 ∷ []) [] [] (sym (append-nil (came ++ 10 ∷ [])))
              (subst (λ l. HasLines (came ++ 10 ∷ []) (going.lines ++ l) []) (sym one) (line_ended came going.lines going.rest going.parts))
        ]

  pub stopped_more : {start : Start} {came : List ℕ} {service : Service M} {taken : Option (List ℕ)} (more : List ℕ) → Stopped has newest start came service taken
      → Stopped has newest start (came ++ more) service taken
  stopped_more more stopped = record {
    first = stopped.first;
    left = stopped.left ++ more;
    lines = stopped.lines;
    rest = stopped.rest;
    outcomes = stopped.outcomes;
    end = stopped.end;
    came_is = ap (λ (l : List ℕ). l ++ more) stopped.came_is ∙ append_assoc stopped.first stopped.left more;
    parts = stopped.parts;
    become = stopped.become;
    printed = stopped.printed;
    stands = stopped.stands;
    setup_is = stopped.setup_is;
  }

  -- ---- a source

  module _ {start : Start} {from mid : Option (List ℕ)} {count : ℕ} {old : Session} {service : Service M} {now : Option (List ℕ)}
      (reached : Reached has newest start from mid count old service now) where
    pub reached_more : {to new : Option (List ℕ)} {session : Session} {next : Service M} (piece : List ℕ) (more : ℕ) → Consumes mid to piece → length piece ≡ more
        → Going has newest start (reached.came ++ piece) session next new → Reached has newest start from to (count + more) session next new
    reached_more {to = to} piece more consumed counted going = record {
      came = reached.came ++ piece;
      consumed = Consumes-trans from mid to reached.came piece reached.consumed consumed;
      counted = omega (arith, length-append reached.came piece, reached.counted, counted);
      going = going;
    }

    pub reached_kept : {to : Option (List ℕ)} → Keeps mid to → Reached has newest start from to count old service now
    reached_kept {to = to} kept = record {
      came = reached.came;
      consumed = Consumes-kept from mid to reached.came reached.consumed kept;
      counted = reached.counted;
      going = reached.going;
    }

    pub reached_none : {to : Option (List ℕ)} (piece : List ℕ) → Consumes mid to piece → piece ≡ [] → Reached has newest start from to count old service now
    reached_none {to = to} piece consumed none = record {
      came = reached.came;
      consumed = subst (Consumes from to) (ap (λ (l : List ℕ). reached.came ++ l) none ∙ append-nil reached.came)
          (Consumes-trans from mid to reached.came piece reached.consumed consumed);
      counted = reached.counted;
      going = reached.going;
    }

    pub reached_stop : {to new : Option (List ℕ)} {next : Service M} (piece : List ℕ) → Consumes mid to piece
        → Stopped has newest start (reached.came ++ piece) next new → ReachedStop has newest start from to next new
    reached_stop {to = to} piece consumed stopped = record {
      came = reached.came ++ piece;
      consumed = Consumes-trans from mid to reached.came piece reached.consumed consumed;
      stopped = stopped;
    }

-- ---- a piece

pub line_on : (came gone bytes : List ℕ) → ((came ++ gone) ++ bytes) ++ 10 ∷ [] ≡ came ++ (gone ++ (bytes ++ 10 ∷ []))
line_on came gone bytes = append_assoc (came ++ gone) bytes (10 ∷ []) ∙ append_assoc came gone (bytes ++ 10 ∷ [])

-- a piece is what was gone through, one line with its end, and the rest
pub left_on : (piece gone left bytes rest : List ℕ) → piece ≡ gone ++ left → left ≡ bytes ++ 10 ∷ rest → piece ≡ (gone ++ (bytes ++ 10 ∷ [])) ++ rest
left_on piece gone left bytes rest parts cut =
    parts ∙ ap (λ (l : List ℕ). gone ++ l) (cut ∙ sym (append_assoc bytes (10 ∷ []) rest)) ∙ sym (append_assoc gone (bytes ++ 10 ∷ []) rest)

pub whole_is : (came piece gone left bytes rest : List ℕ) → piece ≡ gone ++ left → left ≡ bytes ++ 10 ∷ rest
    → (((came ++ gone) ++ bytes) ++ 10 ∷ []) ++ rest ≡ came ++ piece
whole_is came piece gone left bytes rest parts cut = ap (λ (l : List ℕ). l ++ rest) (line_on came gone bytes) ∙ append_assoc came (gone ++ (bytes ++ 10 ∷ [])) rest
    ∙ ap (λ (l : List ℕ). came ++ l) (sym (left_on piece gone left bytes rest parts cut))

pub piece_is : (came piece gone left : List ℕ) → piece ≡ gone ++ left → (came ++ gone) ++ left ≡ came ++ piece
piece_is came piece gone left parts = append_assoc came gone left ∙ ap (λ (l : List ℕ). came ++ l) (sym parts)

-- ---- what came

pub came_more : (from mid to : Option (List ℕ)) (count more : ℕ) (piece : List ℕ) → Came from mid count → Consumes mid to piece → length piece ≡ more
    → Came from to (count + more)
came_more from mid to count more piece came consumed counted = record {
  bytes = came.bytes ++ piece;
  consumed = Consumes-trans from mid to came.bytes piece came.consumed consumed;
  counted = omega (arith, length-append came.bytes piece, came.counted, counted);
}

pub came_takes : (from to : Option (List ℕ)) (count : ℕ) → Came from to count → count ≤ input_limit → TakesAtMost from to input_limit
came_takes from to count came limit = record { piece = came.bytes; taken = came.consumed; within = omega (arith, came.counted, limit) }

pub length-take-below : (count : ℕ) (bytes : List ℕ) → count ≤ length bytes → length (take count bytes) ≡ count
length-take-below count bytes below = omega (arith, length-take count bytes, below)
