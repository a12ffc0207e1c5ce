-- What the clauses of `parse` and of the parser of the words tell of what the words mean.
use Rattle.std.proofs.Common.{◌≡◌, ◌≢◌, ℕ, ◌+◌, ◌<◌, ◌^◌, ◌⊎◌, inl, inr, Bool, true, false, ◌||◌, cond, option_map, List, []}
use Rattle.std.proofs.Common.{◌∷◌, get_or, length, take, Option, Some, None, Result, Ok, Err, refl, sym, ap, ◌∙◌, subst}
use Rattle.std.specs.Borrow.{Bor}
use Rattle.std.specs.Result.{OkIff, result_ok}
use Rattle.std.specs.Str.{all_ascii_digits}
use Rattle.std.specs.Str.Parse.{IsNumeral, ParsesUnsigned, digits_value, without_leading_plus}
use Rattle.std.proofs.lemmas.Str.Parse.{IsNumeralModel, numerals_by_value, tells_all_ascii_digits}
use Rattle.std.proofs.lemmas.List.Sums.{fold_more}
use Rattle.std.proofs.lemmas.Bool.{and_from, and_parts, lt-ltb, ltb-true}
use Rattle.clap.proofs.WalkLemmas.{first_value-rows}
use Rattle.clap.specs.Words.{AddsArg, App, HasMatchesOf, IsAmong, Kinds, Row, Rule, app_of, fault_of, first_of, first_value, found_of}
use Rattle.clap.specs.Words.{is_simple, is_simple_and_free, new_rule, rows_of, rule_of, subcommand_rows_of, with_rule}
use Rattle.clap.specs.declared.Arg.{Arg}
use Rattle.clap.specs.declared.Command.{Command}
use Rattle.clap.specs.declared.Command.TheViews.{out-Command}
use Rattle.clap.specs.declared.error.kind.ErrorKind.{ErrorKind}
use Rattle.clap.specs.declared.error.kind.ErrorKind.TheVariants.{OutOfMemory}
use Rattle.clap.specs.declared.parser.matches.ArgMatches.{ArgMatches}
use Rattle.command_line.specs.declared.options.Parameter.{Parameter}
use Rattle.command_line.specs.Commands.{rule_for, taking}
use Rattle.command_line.specs.Words.{argument_rule, command_of, found, meant, meant_by, number_of, refusals, snow_app, with_files, with_numbers, with_slice, with_wire, with_workers}

-- ---- numbers

numerals : IsNumeralModel (λ ds. all_ascii_digits ds ≡ true) (digits_value 10)
numerals = numerals_by_value _ tells_all_ascii_digits

-- a value exactly where a test of the fact holds
by_test : {E : Type 0} (P : Type 0) (test : Bool) (n : ℕ) (r : Result ℕ E) → (P → test ≡ true) → (test ≡ true → P) → OkIff r P n
    → result_ok r ≡ cond test (Some n) None
by_test P test n (Ok x) to from h = rw (to h.0) (ap Some h.1)
by_test P true n (Err e) to from h = absurd (h (from refl))
by_test P false n (Err e) to from h = refl

pub number_of-parse : {E : Type 0} (text : List ℕ) (r : Result ℕ E) → ParsesUnsigned 32 10 text r → result_ok r ≡ number_of text
number_of-parse text r h =
    let digits = without_leading_plus text in
    by_test (IsNumeral 10 digits × (digits_value 10 digits < 2 ^ 32)) _ (digits_value 10 digits) r
    (λ p. and_from _ _ (lt-ltb _ _ p.0.0) (and_from _ _ (numerals.from digits p.0.1) (lt-ltb _ _ p.1)))
    (λ e.
    let parts = and_parts _ _ e in
    let more = and_parts _ _ parts.1 in
    ((ltb-true _ _ parts.0, numerals.to digits more.0), ltb-true _ _ more.1))
    h

-- ---- the parser of the words

simple : is_simple snow_app ≡ true
unfolding with_files with_numbers with_wire with_workers with_slice
simple = refl

simple_and_free : is_simple_and_free snow_app ≡ true
unfolding with_files with_numbers with_wire with_workers with_slice
simple_and_free = refl

-- a command with one more argument, which is not global: its rule is the last
pub rule-added : {old new : Command} {a : Arg} {rule : Rule} → AddsArg old a new → rule_of a ≡ rule → a.global ≡ false
    → app_of new ≡ with_rule (app_of old) rule
rule-added {old} adds is local = adds.shape local ∙ ap (with_rule (app_of old)) is

-- and it has no global one, if it had none
pub not-global : {old new : Command} {a : Arg} → AddsArg old a new → a.global ≡ false → (out-Command old).has_globals ≡ false
    → (out-Command new).has_globals ≡ false
not-global {a} adds local none = adds.globals ∙ ap (λ v. v || a.global) none ∙ local

-- an argument that has to be given
pub made-required : (old new : Arg) (id : List ℕ) → new ≡ record old { required = true } → old.global ≡ false → rule_of old ≡ new_rule id
    → (new.global ≡ false) × (rule_of new ≡ argument_rule id)
made-required old new id is local of_old =
    (ap (λ (a : Arg). a.global) is ∙ local, ap rule_of is ∙ ap (λ (r : Rule). record r { required = true }) of_old)

-- the text that is given for an argument
pub text-found : (m : ArgMatches) (id : List ℕ) (text : Option (Bor (List ℕ))) → option_map (λ (t : Bor (List ℕ)). t.now) text ≡ first_value (found_of m) id
    → option_map (λ (t : Bor (List ℕ)). t.now) text ≡ first_of id (rows_of (found_of m))
text-found m id text is = is ∙ first_value-rows (found_of m) id

-- one parameter more
pub parameter-more : (parameters : List Parameter) (first old new : App) (at : ℕ) (d : Parameter) → at < length parameters
    → old ≡ taking (take at parameters) first → new ≡ with_rule old (rule_for (get_or parameters at d)) → new ≡ taking (take (at + 1) parameters) first
parameter-more parameters first old new at d inside so_far is =
    is ∙ ap (λ (app : App). with_rule app (rule_for (get_or parameters at d))) so_far
    ∙ sym (fold_more (λ (app : App) (parameter : Parameter). with_rule app (rule_for parameter)) first parameters at d inside)

-- words that the parser takes mean what the subcommand that was found says
pub meant-taken : (app : App) (words : List (List ℕ)) (m : ArgMatches) → app ≡ snow_app
    → (is_simple_and_free app ≡ true → fault_of app words ≡ []) → HasMatchesOf app words m
    → command_of (subcommand_rows_of m) ≡ meant words
unfolding refusals found
meant-taken app words m e taken matches =
    let none = subst (λ app. is_simple_and_free app ≡ true → fault_of app words ≡ []) e taken simple_and_free in
    let rows = (subst (λ app. HasMatchesOf app words m) e matches simple).1 in
    ap command_of rows ∙ ap (λ kinds. meant_by kinds (found words)) (sym none)

refused : (kind : ErrorKind) (kinds : Kinds) (subcommand : Option (List ℕ × List Row)) → IsAmong kind kinds → None ≡ meant_by kinds subcommand
refused kind [] subcommand h = absurd h
refused kind (k ∷ kinds) subcommand h = refl

-- words that it refuses mean nothing
pub meant-refused : (app : App) (words : List (List ℕ)) (kind : ErrorKind) → app ≡ snow_app
    → (is_simple_and_free app ≡ true → (kind ≡ OutOfMemory) ⊎ IsAmong kind (fault_of app words)) → kind ≢ OutOfMemory
    → None ≡ meant words
unfolding refusals
meant-refused app words kind e fails other =
    elim (subst (λ app. is_simple_and_free app ≡ true → (kind ≡ OutOfMemory) ⊎ IsAmong kind (fault_of app words)) e fails simple_and_free) [
      | inl memory ↦ absurd (other memory)
      | inr among ↦ refused kind (refusals words) (found words) among
    ]
