-- What clap's definition of a simple command says of krbtool's words, what an argument is that needs or excludes another, and how the rows of a
-- table are taken one by one.
use Rattle.std.proofs.Common.{◌≡◌, ◌&&◌, ◌<◌, ◌+◌, ℕ, Bool, true, false, not, List, [], ◌∷◌, ◌++◌, Result, Ok, Err, drop, fold, get_or, length, map, refl, ap, subst, sym, ◌∙◌, arith}
use Rattle.std.specs.Prelude.{IfOk}
use Rattle.std.specs.Borrow.{Bor}
use Rattle.std.proofs.lemmas.Bool.{ne_eqb}
use Rattle.std.proofs.lemmas.List.{at_drop_more, length-append}
use Rattle.clap.specs.Adds.{AddsConflicts, AddsRequirements}
use Rattle.clap.specs.Walk.{is_empty}
use Rattle.clap.specs.Words.{AddsArg, AddsSubcommand, App, HasMatchesOf, Rule, Text, app_of, is_simple, rule_of, subcommand_of, subcommand_rows_of, with_rule}
use Rattle.clap.specs.declared.builder.arg.Arg.{Arg}
use Rattle.clap.specs.declared.builder.arg.ArgPredicate.{ArgPredicate}
use Rattle.clap.specs.declared.builder.command.Command.{Command}
use Rattle.clap.specs.declared.builder.command.Command.TheViews.{out-Command}
use Rattle.clap.specs.declared.parser.matches.ArgMatches.{ArgMatches}
use Rattle.krb_command_line.specs.Arguments.{excluding_another, needing_another}
use Rattle.krb_command_line.specs.CommandLine.{krbtool, with_command, with_file_commands, with_message_commands}

krbtool_is_simple : is_simple krbtool ≡ true
unfolding krbtool with_file_commands with_message_commands
krbtool_is_simple = refl

-- the matches of krbtool are those of clap's definition
pub matches_of_krbtool : {E : Type 0} (result : Result ArgMatches E) (app : App) (words : List Text) → app ≡ krbtool
    → IfOk result (HasMatchesOf app words) → IfOk result (λ m. subcommand_rows_of m ≡ subcommand_of krbtool words)
matches_of_krbtool (Ok m) app words is has =
    (subst (λ (a : App). HasMatchesOf a words m) is has krbtool_is_simple).1
matches_of_krbtool (Err e) app words is has = tt

not_empty : {X : Type 0} (xs : List X) (x : X) → is_empty (xs ++ x ∷ []) ≡ false
not_empty xs x = ne_eqb (length (xs ++ x ∷ [])) 0 (λ is. absurd (omega (arith, is, length-append xs (x ∷ []))))

second_false : (a b c : Bool) → b ≡ false → (a && (b && c)) ≡ false
second_false false b c is = refl
second_false true b c is = ap (λ (v : Bool). v && c) is

third_false : (a b c d : Bool) → c ≡ false → (a && (b && (c && d))) ≡ false
third_false false b c d is = refl
third_false true false c d is = refl
third_false true true c d is = ap (λ (v : Bool). v && d) is

-- it has a rule on another argument, and is else the same
pub is_needing : {E : Type 0} (result : Result Arg E) (arg : Arg) (other : ArgPredicate × Bor (List ℕ))
    → IfOk result (λ r. AddsRequirements arg r (other ∷ [])) → IfOk result (λ r. rule_of r ≡ needing_another (rule_of arg))
is_needing (Ok r) arg other adds =
    let some : is_empty r.needs.items ≡ false = ap is_empty adds.1 ∙ not_empty arg.needs.items other in
    ap rule_of adds.0
    ∙ ap (λ (f : Bool). record (rule_of arg) { is_free = f })
    (third_false (not arg.exclusive) (is_empty arg.conflicts.items) (is_empty r.needs.items) _ some)
is_needing (Err e) arg other adds = tt

-- it has a rule against another argument, and is else the same
pub is_excluding : {E : Type 0} (result : Result Arg E) (arg : Arg) (other : Bor (List ℕ))
    → IfOk result (λ r. AddsConflicts arg r (other ∷ [])) → IfOk result (λ r. rule_of r ≡ excluding_another (rule_of arg))
is_excluding (Ok r) arg other adds =
    let some : is_empty r.conflicts.items ≡ false = ap is_empty adds.1 ∙ not_empty arg.conflicts.items other in
    ap rule_of adds.0
    ∙ ap (λ (f : Bool). record (rule_of arg) { is_free = f })
    (second_false (not arg.exclusive) (is_empty r.conflicts.items) _ some)
is_excluding (Err e) arg other adds = tt

-- what is left to do, after one more row
pub one_more : {A B C : Type 0} (f : B → A → B) (g : C → A) (rows : List C) (i : ℕ) (d : C) (old new : B) → i < length rows
    → new ≡ f old (g (get_or rows i d)) → fold f new (map g (drop (i + 1) rows)) ≡ fold f old (map g (drop i rows))
one_more {A} {B} {C} f g rows i d old new inside is =
    ap (λ (b : B). fold f b (map g (drop (i + 1) rows))) is
    ∙ sym (at_drop_more (λ (rest : List C). fold f old (map g rest)) rows i d inside)

-- what a command is after one more subcommand, or one more argument
pub subcommand_added : {E : Type 0} (result : Result Command E) (old one : Command) {app : App} → IfOk result (AddsSubcommand old one)
    → (out-Command one).has_globals ≡ false → app_of one ≡ app → IfOk result (λ c. app_of c ≡ with_command (app_of old) app)
subcommand_added (Ok c) old one adds local is = adds.shape local ∙ ap (λ (a : App). with_command (app_of old) a) is
subcommand_added (Err e) old one adds local is = tt

pub argument_added : {E : Type 0} (result : Result Command E) (old : Command) (one : Arg) {rule : Rule} → IfOk result (λ c. AddsArg old one c)
    → one.global ≡ false → rule_of one ≡ rule → IfOk result (λ c. app_of c ≡ with_rule (app_of old) rule)
argument_added (Ok c) old one adds local is = adds.shape local ∙ ap (λ (r : Rule). with_rule (app_of old) r) is
argument_added (Err e) old one adds local is = tt

pub argument_is_local : {E : Type 0} (result : Result Command E) (old : Command) (one : Arg) → IfOk result (λ c. AddsArg old one c)
    → (out-Command old).has_globals ≡ false → one.global ≡ false → IfOk result (λ c. (out-Command c).has_globals ≡ false)
argument_is_local (Ok c) old one adds before local = rw (adds.globals, before, local) refl
argument_is_local (Err e) old one adds before local = tt
