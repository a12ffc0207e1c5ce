-- Lines of scripts, by what they make of a family.
use Rattle.std.proofs.Common.{◌≡◌, ◌≢◌, ℕ, zero, suc, ◌+◌, ◌<◌, ◌≤◌, ◌||◌, cond, Bool, true, false, refl, sym, ap, ◌∙◌, subst, arith, inl}
use Rattle.std.proofs.Common.{inr, List, [], ◌∷◌, ◌++◌, length, replicate, Option, Some, None, IsSome, is_some, option_map}
use Rattle.std.proofs.lemmas.Bool.{cases_lt, and_parts, or_from}
use Rattle.std.proofs.lemmas.List.{length-replicate}
use Rattle.std.specs.Prelude.{slice_get}
use Rattle.forest_tree.specs.Operations.{Call, clone, join, kill}
use Rattle.forest_tree.specs.Tree.{Tree, node, Trees, no_tree, tree, Broods, Log, Branch, Path, machine, log_of, size, child_at, brood_of, without}
use Rattle.forest_tree.specs.Tree.{joined, subtree, beyond, goes_on, is_below}
use Rattle.forest_tree.specs.Step as own
use Rattle.forest_tree.specs.Step.{have_ended, endings, waits, rests, step}
use Rattle.forest_tree.specs.Sound.{IsSound}
use Rattle.forest_tree.proofs.Calls.{step-join, ready-ended, endings-at}
use Rattle.forest_tree.proofs.Sound.{length-endings, machine-settled}
use Rattle.forest_tree.proofs.Places.{some-same, subtree-sound}
use Rattle.sibling_forest.specs.Talk.{Talk, send, receive, queue, Box, boxed}
use Rattle.sibling_forest.specs.Settle.{settle, settle_all, rests_at}
use Rattle.sibling_forest.specs.Laws.{child_number, is_sibling}
use Rattle.sibling_forest.specs.Members.{IsWholeForest}
use Rattle.sibling_forest.proofs.Finish.{finish-settle_all}
use Rattle.sibling_forest.proofs.Others.{own-step}
use Rattle.sibling_forest.proofs.Projected.{settle-map}
use Rattle.sibling_forest.proofs.Sound.{settle-keeps, settle_all-keeps}
use Rattle.talking_history.specs.World.{holds}
use Rattle.talking_history.proofs.Beside.{rests-parts, silent-waits, talk_waits}
use Rattle.fork_port.specs.declared.ending.Ending.{Ending}
use Rattle.forest_model.specs.Machine.{Machine}
use Rattle.forest_model.specs.Forest.{machines, port_of, finish, talks}
use Rattle.forest_model.specs.Paged.{Paged, paged_machines, paged_talks, stalled_at}
use Rattle.forest_model.proofs.Calls.{values-joined}
use Rattle.forest_model.proofs.Paged.{paged-alike, paged-projects, paged-rules, paged-talk}
use Rattle.forest_model.proofs.Rules.{machines-rules}
use Rattle.forest_model.proofs.Talking.{machines-talk}
use Rattle.machine_names.proofs.Below.{beyond-append}
use Rattle.world_core.proofs.Steps.{call-quiet}
use Rattle.drive_script.specs.Script as script
use Rattle.drive_script.specs.declared.answer.Answer.TheVariants.{Ran}
use Rattle.drive_script.specs.declared.answer.Why.{Why}
use Rattle.drive_script.specs.declared.answer.Why.TheVariants.{MayGoOn}
use Rattle.drive_script.specs.Replies.{Siblings, Replies, are_same, reply_to, siblings_of, with_reply}
use Rattle.drive_script.specs.Steps.{Family, after_steps, awaited, joined_ticket, number_in, stall_told, stalls_at, stops, why_at, why_by, why_of, live_at, Drops}
use Rattle.drive_script.specs.Story.{events, own_steps, story}
use Rattle.drive_script.specs.Told.{Driven, made_at, whole, asked, pushed, given, ran, ran_by, name_in, steps_of, after_line, after_script, steps_of_script, answer, answer_by}
use Rattle.drive_script.proofs.Arrivals.{apart-arrival, below-arrival, logs-arrival, others-arrival, whole-arrival, words-arrival}
use Rattle.drive_script.proofs.Sending.{are-same}
use Rattle.drive_script.proofs.Steps.{all-both, after-both, after-first, after-none, made-at-most, made-both, made-each, made-more, made-short}
use Rattle.drive_script.proofs.OneMachine.{apart-stays, logs-stay, others-stay, words-stay}
use Rattle.drive_script.proofs.Runs.{all-whole}
use Rattle.drive_script.proofs.Stories.{below-stays, gone-steps, own-counts, settled-machine, steps-story}

no-step : (t : Tree (Box Machine)) → settle_all machines talks [] t ≡ t
unfolding settle_all
no-step t = refl

-- steps of machines with every page
steps-map : (paths : List Path) (t : Family) → settle_all machines talks paths (whole t) ≡ whole (settle_all paged_machines paged_talks paths t)
unfolding settle_all
steps-map [] t = refl
steps-map (path ∷ rest) t =
    ap (settle_all machines talks rest) (settle-map paged_machines machines paged_talks talks (λ (p : Paged). p.machine) paged-projects paged-alike path t)
    ∙ steps-map rest (settle paged_machines paged_talks path t)

-- a line makes its steps of the machines with every page
pub line-steps : (line : script.ScriptLine) (s : Driven) → whole (after_line line s).tree ≡ settle_all machines talks (steps_of line s.tree) (whole s.tree)
line-steps (script.step path most) s = sym (steps-map (replicate (made_at most path s.tree) path) s.tree)
line-steps (script.ask path) s = sym (no-step (whole s.tree))
line-steps (script.push path page) s = sym (no-step (whole s.tree))
line-steps (script.give path place) s = whole-arrival path (given path place s) s.tree ∙ sym (no-step (whole s.tree))
line-steps (script.peek path address) s = sym (no-step (whole s.tree))
line-steps (script.regs path) s = sym (no-step (whole s.tree))

-- ---- one machine

pub others : (line : script.ScriptLine) (at : Path) (s : Driven) → at ≢ name_in line → is_below (name_in line) at ≡ false
    → option_map (λ (a : Family). (machine a).machine) (subtree at (after_line line s).tree) ≡ option_map (λ (a : Family). (machine a).machine) (subtree at s.tree)
others (script.step path most) at s other apart = others-stay paged_machines paged_talks (made_at most path s.tree) path at s.tree other apart
others (script.ask path) at s other apart = refl
others (script.push path page) at s other apart = refl
others (script.give path place) at s other apart = others-arrival path (given path place s) at s.tree other apart
others (script.peek path address) at s other apart = refl
others (script.regs path) at s other apart = refl

pub words : (line : script.ScriptLine) (at : Path) (from : ℕ) (s : Driven) → at ≢ name_in line → is_below (name_in line) at ≡ false
    → (is_sibling (name_in line) at ≡ true → from ≢ child_number (name_in line))
    → option_map (λ (a : Family). queue from (machine a).inbox) (subtree at (after_line line s).tree)
    ≡ option_map (λ (a : Family). queue from (machine a).inbox) (subtree at s.tree)
words (script.step path most) at from s other apart beside = words-stay paged_machines paged_talks (made_at most path s.tree) path at from s.tree other apart beside
words (script.ask path) at from s other apart beside = refl
words (script.push path page) at from s other apart beside = refl
words (script.give path place) at from s other apart beside = words-arrival path (given path place s) at from s.tree other apart
words (script.peek path address) at from s other apart beside = refl
words (script.regs path) at from s other apart beside = refl

pub logs : (line : script.ScriptLine) (at : Path) (s : Driven) → at ≢ name_in line → is_below (name_in line) at ≡ false
    → option_map log_of (subtree at (after_line line s).tree) ≡ option_map log_of (subtree at s.tree)
logs (script.step path most) at s other apart = logs-stay paged_machines paged_talks (made_at most path s.tree) path at s.tree other apart
logs (script.ask path) at s other apart = refl
logs (script.push path page) at s other apart = refl
logs (script.give path place) at s other apart = logs-arrival path (given path place s) at s.tree other apart
logs (script.peek path address) at s other apart = refl
logs (script.regs path) at s other apart = refl

pub apart : (line : script.ScriptLine) (at : Path) (s : Driven) → is_below (name_in line) at ≡ false → beyond at (name_in line) ≡ None
    → is_sibling (name_in line) at ≡ false → subtree at (after_line line s).tree ≡ subtree at s.tree
apart (script.step path most) at s under off beside = apart-stays paged_machines paged_talks (made_at most path s.tree) path at s.tree under off beside
apart (script.ask path) at s under off beside = refl
apart (script.push path page) at s under off beside = refl
apart (script.give path place) at s under off beside = apart-arrival path (given path place s) at s.tree under off
apart (script.peek path address) at s under off beside = refl
apart (script.regs path) at s under off beside = refl

pub below : (line : script.ScriptLine) (at : Path) (s : Driven) (a b : Family) → IsSound (boxed paged_machines paged_talks) s.tree → is_below (name_in line) at ≡ true
    → subtree at s.tree ≡ Some a → subtree at (after_line line s).tree ≡ Some b → b ≡ a
below (script.step path most) at s a b h under here there = below-stays paged_machines paged_talks paged-rules paged-talk (made_at most path s.tree) path at s.tree a b h under here there
below (script.ask path) at s a b h under here there = some-same b a (sym there ∙ here)
below (script.push path page) at s a b h under here there = some-same b a (sym there ∙ here)
below (script.give path place) at s a b h under here there =
    some-same b a (sym there ∙ below-arrival path (given path place s) at s.tree under ∙ here)
below (script.peek path address) at s a b h under here there = some-same b a (sym there ∙ here)
below (script.regs path) at s a b h under here there = some-same b a (sym there ∙ here)

some-none : (c : Option (Family)) (a : Family) → c ≡ Some a → c ≡ None → ⊥
some-none c a some none = cc

-- a path that goes on is below
goes-below : (path : Path) (b : Branch) (rest : Path) → is_below path (path ++ (b ∷ rest)) ≡ true
goes-below path b rest = ap goes_on (beyond-append path (b ∷ rest))

pub gone : (line : script.ScriptLine) (b : Branch) (rest : Path) (s : Driven) (a : Family) → IsSound (boxed paged_machines paged_talks) s.tree
    → subtree (name_in line ++ (b ∷ rest)) s.tree ≡ Some a → subtree (name_in line ++ (b ∷ rest)) (after_line line s).tree ≡ None
    → (n : ℕ) × (n < length (steps_of line s.tree)) × (x : Family)
    × (subtree (name_in line) (after_steps paged_machines paged_talks n (name_in line) s.tree) ≡ Some x) × Drops (boxed paged_machines paged_talks) b.ticket x
gone (script.step path most) b rest s a h here there =
    let is = gone-steps paged_machines paged_talks paged-rules paged-talk (made_at most path s.tree) path b rest s.tree a h here there in
    let as_many = length-replicate (made_at most path s.tree) path in
    (is.0, omega (arith, is.1, as_many), is.2, is.3, is.4)
gone (script.ask path) b rest s a h here there = absurd (some-none _ a here there)
gone (script.push path page) b rest s a h here there = absurd (some-none _ a here there)
gone (script.give path place) b rest s a h here there =
    absurd (some-none _ a (below-arrival path (given path place s) (path ++ (b ∷ rest)) s.tree (goes-below path b rest) ∙ here) there)
gone (script.peek path address) b rest s a h here there = absurd (some-none _ a here there)
gone (script.regs path) b rest s a h here there = absurd (some-none _ a here there)

-- ---- steps

pub pieces : (first more : ℕ) (path : Path) (s : Driven)
    → after_line (script.step path (first + more)) s ≡ after_line (script.step path more) (after_line (script.step path first) s)
pieces first more path s =
    let with_tree : Family → Driven = λ t. record s { tree = t } in
    ap with_tree
    (ap (λ n. after_steps paged_machines paged_talks n path s.tree) (made-both paged_machines paged_talks stalled_at first more path s.tree)
    ∙ after-both paged_machines paged_talks (made_at first path s.tree) (made_at more path (after_line (script.step path first) s).tree) path s.tree)

-- a machine that goes on counts each step
goes-not : (rest stalled : Bool) → rest || stalled ≡ false → rest ≡ false
goes-not true stalled h = absurd (cc)
goes-not false stalled h = refl

goes-alone : (rest talking : Bool) → rest || talking ≡ false → rest ≡ false
goes-alone true talking h = absurd (cc)
goes-alone false talking h = refl

-- a step of the machine at a path, which goes on
step-counts : (path : Path) (t a b : Family) → IsSound (boxed paged_machines paged_talks) t → subtree path t ≡ Some a → subtree path (settle paged_machines paged_talks path t) ≡ Some b
    → rests_at paged_machines paged_talks path t ≡ false → paged_machines.left (machine a).machine ≡ 1 + paged_machines.left (machine b).machine
step-counts path t a b h here there moves =
    let alone = goes-alone (rests (boxed paged_machines paged_talks) (Some a)) (talk_waits paged_machines paged_talks path t)
    (sym (rests-parts paged_machines paged_talks path t a here) ∙ moves) in
    own-counts paged_machines paged_talks paged-rules paged-talk a (subtree-sound (boxed paged_machines paged_talks) path t a h here) alone
    ∙ ap (λ (p : Paged). 1 + paged_machines.left p) (some-same (machine (step (boxed paged_machines paged_talks) a)).machine (machine b).machine
    (sym (settled-machine paged_machines paged_talks paged-rules paged-talk path t a h here moves) ∙ ap (option_map (λ (u : Family). (machine u).machine)) there))

is-there : (c : Option Family) (p : Paged) → option_map (λ (u : Family). (machine u).machine) c ≡ Some p → (u : Family) × (c ≡ Some u)
is-there None p h = cc h
is-there (Some u) p h = (u, refl)

-- so it is after so many, where it goes on before each
all-count : (n : ℕ) (path : Path) (t a b : Family) → IsSound (boxed paged_machines paged_talks) t → subtree path t ≡ Some a
    → subtree path (after_steps paged_machines paged_talks n path t) ≡ Some b
    → ((k : ℕ) → k < n → rests_at paged_machines paged_talks path (after_steps paged_machines paged_talks k path t) ≡ false)
    → paged_machines.left (machine a).machine ≡ n + paged_machines.left (machine b).machine
all-count zero path t a b h here there goes =
    let same : a ≡ b = some-same a b (sym here ∙ ap (subtree path) (sym (after-none paged_machines paged_talks path t)) ∙ there) in
    let kept : paged_machines.left (machine a).machine ≡ paged_machines.left (machine b).machine = ap (λ (u : Family). paged_machines.left (machine u).machine) same in
    omega (arith, kept)
all-count (suc n) path t a b h here there goes =
    let next : Family = settle paged_machines paged_talks path t in
    let moves : rests_at paged_machines paged_talks path t ≡ false =
    ap (rests_at paged_machines paged_talks path) (sym (after-none paged_machines paged_talks path t)) ∙ goes 0 (omega arith) in
    let first = is-there (subtree path next) (machine (step (boxed paged_machines paged_talks) a)).machine
    (settled-machine paged_machines paged_talks paged-rules paged-talk path t a h here moves) in
    let one = step-counts path t a first.0 h here first.1 moves in
    let rest = all-count n path next first.0 b (settle-keeps paged_machines paged_talks paged-rules paged-talk path t h).sound first.1
    (sym (ap (subtree path) (after-first paged_machines paged_talks n path t)) ∙ there)
    (λ k below. ap (rests_at paged_machines paged_talks path) (sym (after-first paged_machines paged_talks k path t)) ∙ goes (suc k) (omega (arith, below))) in
    omega (arith, one, rest)

pub counts : (most : ℕ) (path : Path) (s : Driven) (a b : Family) → IsSound (boxed paged_machines paged_talks) s.tree → subtree path s.tree ≡ Some a
    → subtree path (after_line (script.step path most) s).tree ≡ Some b
    → paged_machines.left (machine a).machine ≡ made_at most path s.tree + paged_machines.left (machine b).machine
counts most path s a b h here there =
    all-count (made_at most path s.tree) path s.tree a b h here there
    (λ k below. goes-not (rests_at paged_machines paged_talks path (after_steps paged_machines paged_talks k path s.tree)) _
    (made-each paged_machines paged_talks stalled_at most k path s.tree below))

-- ---- why it stops

-- a machine that waits for no page
stalls-none : (path : Path) (t a : Family) → subtree path t ≡ Some a → stalled_at (machine a).machine ≡ None → stalls_at paged_machines paged_talks stalled_at path t ≡ false
stalls-none path t a here none = ap (holds (λ (u : Family). is_some (stalled_at (machine u).machine))) here ∙ ap is_some none

rests-or : (rests stalled : Bool) → stalled ≡ false → rests || stalled ≡ true → rests ≡ true
rests-or true stalled none h = refl
rests-or false stalled none h = absurd (cc)

answered-by : (count made : ℕ) (why : Option Why) → ran_by count why ≡ Ran made MayGoOn → (count ≡ made) × (why ≡ Some MayGoOn)
answered-by count made None h = cc h
answered-by count made (Some why) h = (cc h, cc h)

-- a machine that waits awaits something
awaits : (p : Paged) (path : Path) (t a : Family) → subtree path t ≡ Some a → (machine a).machine ≡ p → paged_machines.ending p ≡ None
    → rests_at paged_machines paged_talks path t ≡ true → awaited (paged_talks.talk p) (joined_ticket (paged_machines.call p)) ≡ MayGoOn → ⊥
unfolding boxed
awaits p path t (node b broods log) here same lives rests may = by (paged_talks.talk p) refl (paged_machines.call p) refl may
  where
    quiet : paged_talks.talk p ≡ None → own.waits_by (boxed paged_machines paged_talks) (paged_machines.call b.machine) broods ≡ false → rests_at paged_machines paged_talks path t ≡ false
    quiet none ready =
        rests-parts paged_machines paged_talks path t (node b broods log) here
        ∙ or_from _ _ (or_from _ _ (ap (λ q. is_some (paged_machines.ending q)) same ∙ ap is_some lives) ready)
        (silent-waits paged_machines paged_talks path t (node b broods log) here (ap paged_talks.talk same ∙ none))

    not-so : (call : Option Call) → paged_machines.call p ≡ call → own.waits_by (boxed paged_machines paged_talks) call broods ≡ false → paged_talks.talk p ≡ None → ⊥
    not-so call is ready none =
        let no : true ≡ false = sym rests ∙ quiet none (ap (λ q. own.waits_by (boxed paged_machines paged_talks) (paged_machines.call q) broods) same
        ∙ ap (λ c. own.waits_by (boxed paged_machines paged_talks) c broods) is ∙ ready) in
        cc

    by : (what : Option Talk) → paged_talks.talk p ≡ what → (call : Option Call) → paged_machines.call p ≡ call → awaited what (joined_ticket call) ≡ MayGoOn → ⊥
    by (Some (send j)) e call is h = cc h
    by (Some (receive j)) e call is h = cc h
    by None e None is h = not-so None is refl e
    by None e (Some (clone ticket)) is h = not-so (Some (clone ticket)) is refl e
    by None e (Some (join ticket)) is h = cc h
    by None e (Some (kill ticket)) is h = not-so (Some (kill ticket)) is refl e

-- a page is told just where there is one
told-some : (number : ℕ → ℕ) (page : Option ℕ) → option_map number page ≡ None → page ≡ None
told-some number None h = refl
told-some number (Some page) h = absurd (cc)

may-parts : (ending : Option Ending) (page : Option ℕ) (rests : Bool) (why : Why) → why_by ending page rests why ≡ MayGoOn
    → (ending ≡ None) × (page ≡ None) × (rests ≡ true → why ≡ MayGoOn)
may-parts (Some ending) page rests why h = cc h
may-parts None (Some page) rests why h = cc h
may-parts None None true why h = (refl, refl, λ e. h)
may-parts None None false why h = (refl, refl, λ e. cc e)

may-some : (c : Option Family) (so : Family → Why) → option_map so c ≡ Some MayGoOn → (a : Family) × (c ≡ Some a) × (so a ≡ MayGoOn)
may-some None so h = cc h
may-some (Some a) so h = (a, refl, cc h)

not-ok : (path : Path) (t : Family) → stops paged_machines paged_talks stalled_at path t ≡ true → why_at paged_machines paged_talks stall_told path t ≡ Some MayGoOn → ⊥
not-ok path t h k =
    let rests : Bool = rests_at paged_machines paged_talks path t in
    let at = may-some (subtree path t) (λ (a : Family). why_of paged_machines paged_talks stall_told rests (machine a).machine) k in
    let p : Paged = (machine at.0).machine in
    let parts = may-parts (paged_machines.ending p) (stall_told p) rests (awaited (paged_talks.talk p) (joined_ticket (paged_machines.call p))) at.2 in
    let here : stalls_at paged_machines paged_talks stalled_at path t ≡ false =
    stalls-none path t at.0 at.1 (told-some (number_in p) (stalled_at p) parts.1) in
    let waiting : rests ≡ true = rests-or rests (stalls_at paged_machines paged_talks stalled_at path t) here h in
    awaits p path t at.0 at.1 refl parts.0 waiting (parts.2 waiting)

ok-by : (most made : ℕ) (path : Path) (t : Family) → ran path (made_at most path t) t ≡ Ran made MayGoOn → made ≡ most
ok-by most made path t h =
    let then : Family = after_steps paged_machines paged_talks (made_at most path t) path t in
    let is = answered-by (made_at most path t) made (why_at paged_machines paged_talks stall_told path then) h in
    let at_most = made-at-most paged_machines paged_talks stalled_at most path t in
    all (made_at most path t) is.0 at_most (λ fewer. not-ok path then (made-short paged_machines paged_talks stalled_at most path t fewer) is.1)
  where
    all : (n : ℕ) → n ≡ made → n ≤ most → (n < most → ⊥) → made ≡ most
    all n e within not_fewer = elim (cases_lt n most) [ inl fewer ↦ absurd (not_fewer fewer) | inr past ↦ omega arith ]

pub ok : (most made : ℕ) (path : Path) (s : Driven) → answer (script.step path most) s ≡ Ran made MayGoOn → made ≡ most
ok most made path s h = by (live_at paged_machines path s.tree) h
  where
    by : (c : Option Family) → answer_by (script.step path most) s c ≡ Ran made MayGoOn → made ≡ most
    by None k = cc k
    by (Some a) k = ok-by most made path s.tree k

-- ---- joins

child-ended : (trees : Trees (Box Paged)) → have_ended (boxed paged_machines paged_talks) trees ≡ true → (i : ℕ) (child : Family) → child_at (suc i) trees ≡ Some child
    → IsSome (paged_machines.ending (machine child).machine)
unfolding have_ended child_at boxed
child-ended no_tree h i child e = cc e
child-ended (tree t rest) h zero child e =
    subst (λ (x : Family). IsSome (paged_machines.ending (machine x).machine)) (some-same t child e)
    (and_parts (is_some (paged_machines.ending (machine t).machine)) (have_ended (boxed paged_machines paged_talks) rest) h).0
child-ended (tree t rest) h (suc i) child e =
    child-ended rest (and_parts (is_some (paged_machines.ending (machine t).machine)) (have_ended (boxed paged_machines paged_talks) rest) h).1 i child e

moves : (t : Family) (path : Path) → stops paged_machines paged_talks stalled_at path t ≡ false
    → after_steps paged_machines paged_talks (made_at 1 path t) path t ≡ settle paged_machines paged_talks path t
moves t path goes =
    let one = made-more paged_machines paged_talks stalled_at 0 path t goes in
    let none_more = made-at-most paged_machines paged_talks stalled_at 0 path (settle paged_machines paged_talks path t) in
    let made : made_at 1 path t ≡ 1 = omega (arith, one, none_more) in
    ap (λ n. after_steps paged_machines paged_talks n path t) made ∙ after-first paged_machines paged_talks 0 path t
    ∙ after-none paged_machines paged_talks path (settle paged_machines paged_talks path t)

none-said : (what : Option Talk) (said : Talk) → what ≡ None → what ≡ Some said → ⊥
none-said what said none some = cc

pub join-made : (path : Path) (s : Driven) (b : Box Paged) (broods : Broods (Box Paged)) (log : Log (Box Paged)) (ticket : ℕ)
    → subtree path s.tree ≡ Some (node b broods log) → b.machine.machine.ending ≡ None → stalled_at b.machine ≡ None → machines.call b.machine.machine ≡ Some (join ticket)
    → waits (boxed paged_machines paged_talks) (node b broods log) ≡ false
    → (x : Family) × (subtree path (after_line (script.step path 1) s).tree ≡ Some x) × (length (port_of (machine x).machine.machine).joined ≡ size (brood_of ticket broods))
    × ((i : ℕ) (child : Family) → child_at (suc i) (brood_of ticket broods) ≡ Some child
    → (slice_get (port_of (machine x).machine.machine).joined i ≡ (machine child).machine.machine.ending) × IsSome (machine child).machine.machine.ending)
unfolding boxed paged_machines machines
join-made path s b broods log ticket there lives here call ready =
    let trees = brood_of ticket broods in
    let all = ready-ended (boxed paged_machines paged_talks) b broods log ticket call ready in
    let quiet = call-quiet b.machine (join ticket) call in
    let goes : rests_at paged_machines paged_talks path s.tree ≡ false =
    rests-parts paged_machines paged_talks path s.tree (node b broods log) there
    ∙ or_from _ _ (or_from _ _ (ap is_some lives) ready) (silent-waits paged_machines paged_talks path s.tree (node b broods log) there quiet) in
    let on : stops paged_machines paged_talks stalled_at path s.tree ≡ false =
    or_from _ _ goes (stalls-none path s.tree (node b broods log) there here) in
    let now = ap machine (step-join (boxed paged_machines paged_talks) b broods log ticket lives call ready)
    ∙ machine-settled (boxed paged_machines paged_talks) ((boxed paged_machines paged_talks).after_join b (endings (boxed paged_machines paged_talks) trees))
    (without ticket broods) (joined log ticket trees) in
    let values = ap (λ (q : Box Paged). (port_of q.machine.machine).joined) now ∙ values-joined b.machine.machine ticket (endings (boxed paged_machines paged_talks) trees) call in (
      step (boxed paged_machines paged_talks) (node b broods log),
      ap (subtree path) (moves s.tree path on)
          ∙ own-step paged_machines paged_talks path s.tree (node b broods log) there goes (λ said says. absurd (none-said (paged_talks.talk b.machine) said quiet says)),
      ap length values ∙ length-endings (boxed paged_machines paged_talks) trees all,
      λ i child e. (ap (λ es. slice_get es i) values ∙ endings-at (boxed paged_machines paged_talks) trees all i child e, child-ended trees all i child e),
    )

-- ---- scripts

pub script-steps : (lines : List script.ScriptLine) (s : Driven)
    → whole (after_script lines s).tree ≡ settle_all machines talks (steps_of_script lines s) (whole s.tree)
unfolding after_script steps_of_script settle_all
script-steps [] s = refl
script-steps (line ∷ rest) s =
    let next = after_line line s in
    script-steps rest next ∙ ap (settle_all machines talks (steps_of_script rest next)) (line-steps line s)
    ∙ sym (all-both machines talks (steps_of line s.tree) (steps_of_script rest next) (whole s.tree))

pub script-sound : (lines : List script.ScriptLine) (s : Driven) → IsSound (boxed machines talks) (whole s.tree) → IsSound (boxed machines talks) (whole (after_script lines s).tree)
script-sound lines s h =
    subst (IsSound (boxed machines talks)) (sym (script-steps lines s)) (settle_all-keeps machines talks machines-rules machines-talk (steps_of_script lines s) (whole s.tree) h).sound

pub script-whole : (lines : List script.ScriptLine) (s : Driven) → IsWholeForest machines talks (whole s.tree) → IsWholeForest machines talks (whole (after_script lines s).tree)
script-whole lines s h =
    subst (IsWholeForest machines talks) (sym (script-steps lines s)) (all-whole machines talks machines-rules machines-talk (steps_of_script lines s) (whole s.tree) h)

pub script-end : (lines : List script.ScriptLine) (s : Driven) → IsSound (boxed machines talks) (whole s.tree) → finish (whole (after_script lines s).tree) ≡ finish (whole s.tree)
script-end lines s h =
    ap finish (script-steps lines s) ∙ finish-settle_all machines talks machines-rules machines-talk (steps_of_script lines s) (whole s.tree) h

pub script-alone : (lines : List script.ScriptLine) (at : Path) (s : Driven) (a b : Tree (Box Machine)) → IsWholeForest machines talks (whole s.tree)
    → subtree at (whole s.tree) ≡ Some a → subtree at (whole (after_script lines s).tree) ≡ Some b
    → b ≡ story machines talks (events machines talks at (steps_of_script lines s) (whole s.tree)) a
script-alone lines at s a b h here there =
    (steps-story machines talks machines-rules machines-talk at (steps_of_script lines s) (whole s.tree) a b h here (sym (ap (subtree at) (script-steps lines s)) ∙ there)).story_is

pub script-counts : (lines : List script.ScriptLine) (at : Path) (s : Driven) (a b : Tree (Box Machine)) → IsWholeForest machines talks (whole s.tree)
    → subtree at (whole s.tree) ≡ Some a → subtree at (whole (after_script lines s).tree) ≡ Some b
    → machines.left (machine a).machine ≡ own_steps (events machines talks at (steps_of_script lines s) (whole s.tree)) + machines.left (machine b).machine
script-counts lines at s a b h here there =
    (steps-story machines talks machines-rules machines-talk at (steps_of_script lines s) (whole s.tree) a b h here (sym (ap (subtree at) (script-steps lines s)) ∙ there)).counted

-- ---- replies

-- only the list of the siblings that a reply is sent to changes
other-list : (reply : Option (Siblings × ℕ)) (to : Siblings) (sent : Replies) → ((to-them : Siblings) (page : ℕ) → reply ≡ Some (to-them, page) → to-them ≢ to)
    → with_reply reply sent to ≡ sent to
other-list None to sent apart = refl
other-list (Some reply) to sent apart = by (are_same reply.0 to) refl
  where
    by : (same : Bool) → are_same reply.0 to ≡ same → cond same (sent to ++ reply.1 ∷ []) (sent to) ≡ sent to
    by true e = absurd (apart reply.0 reply.1 refl (are-same reply.0 to e))
    by false e = refl

reply-siblings : (of : Option Siblings) (page : Option ℕ) (to : Siblings) (n : ℕ) → reply_to of page ≡ Some (to, n) → of ≡ Some to
reply-siblings None page to n h = absurd (cc)
reply-siblings (Some s) None to n h = absurd (cc)
reply-siblings (Some s) (Some p) to n h = ap (option_map (λ (x : Siblings × ℕ). x.0)) h

pub lists : (line : script.ScriptLine) (to : Siblings) (s : Driven) → siblings_of (name_in line) ≢ Some to → (after_line line s).sent to ≡ s.sent to
lists (script.step path most) to s apart = refl
lists (script.ask path) to s apart =
    other-list (asked path s) to s.sent (λ them page is same. apart (reply-siblings (siblings_of path) _ them page is ∙ ap Some same))
lists (script.push path page) to s apart =
    other-list (pushed path page s) to s.sent (λ them n is same. apart (reply-siblings (siblings_of path) _ them n is ∙ ap Some same))
lists (script.give path place) to s apart = refl
lists (script.peek path address) to s apart = refl
lists (script.regs path) to s apart = refl
