-- Lines of a script over a world of machines.
use Rattle.std.proofs.Common.{◌≡◌, ℕ, ◌<◌, get_or, refl, sym, ap, ap₂, ◌∙◌, subst, append_assoc, append-nil, inl, List, [], ◌∷◌, ◌++◌, length}
use Rattle.std.proofs.Common.{take, drop, ◌+◌, false, Vec, Option, Some, None, option_and_then, Result, Ok, Err, IfOk}
use Rattle.std.proofs.Math.Seq.{take-append-add}
use Rattle.std.proofs.lemmas.Grind.{flat_map-append}
use Rattle.std.proofs.lemmas.List.{map_more, take-append-drop, take-map}
use Rattle.std.specs.BTreeMap.{BTreeMap}
use Rattle.std.specs.List.{flat_map}
use Rattle.std.specs.declared.alloc.AllocError.{AllocError}
use Rattle.std.specs.declared.alloc.Global.{Global}
use Rattle.image_depot.specs.Key.{Shelves}
use Rattle.forest_tree.specs.Tree.{Path, machine}
use Rattle.sibling_forest.specs.Settle.{settle_all}
use Rattle.talking_history.specs.World.{is_at_home}
use Rattle.forest_model.specs.Paged.{Paged, paged_machines, paged_talks, stalled_at}
use Rattle.vm_cell.specs.Shown.{peeked, shown_registers}
use Rattle.world_core.specs.declared.world.World.{World}
use Rattle.world_core.specs.Answers.{TakesNamed}
use Rattle.world_core.specs.Lent.{Lent, now_of}
use Rattle.drive_script.specs.declared.answer.Answer.{Answer}
use Rattle.drive_script.specs.declared.answer.Answer.TheVariants.{Ask, Push, Word, Registers}
use Rattle.drive_script.specs.declared.answer.SentPlace.{SentPlace}
use Rattle.drive_script.specs.Driven.{BreaksOff, DrivesLine, HasBrokenOff, HasMachines, HasMade, Keeps}
use Rattle.drive_script.specs.declared.line.ScriptLine.{ScriptLine as Read}
use Rattle.drive_script.specs.Lines.{line_read, lines_read}
use Rattle.drive_script.specs.Replies.{page_at, place_of, reply_to, siblings_of, with_arrival, with_reply}
use Rattle.drive_script.specs.Script.{ScriptLine, step, ask, push, give, peek, regs}
use Rattle.drive_script.specs.Steps.{Family, after_steps, live_at, place_in}
use Rattle.drive_script.specs.Told.{Driven, name_in, asked_of, pushed_of, arrived_at, given, steps_of, after_line, after_script, answer, answer_by}
use Rattle.drive_script.specs.Told.{sent_told, unanswered, made_at, told, told_line, told_text, begun}
use Rattle.drive_script.specs.Turned.{HasBack, HasLent}
use Rattle.drive_script.proofs.Lent.{lent-live, lent-first, named-kept, named-lent, named-none, own-tree}
use Rattle.drive_script.proofs.Sending.{IsSent, no-page}
use Rattle.drive_script.proofs.Steps.{after-none, all-both, made-none as no-step-made, nobody-stops}

-- no step was made
none-made : (steps : List Path) (t : Family) → settle_all paged_machines paged_talks (take 0 steps) t ≡ t
unfolding settle_all
none-made steps t = refl

pub made-none : (depot : Shelves) (w : World) (steps : List Path) (t : Family) → HasMachines depot w t → HasMade depot steps t w
made-none depot w steps t h = record { made = 0; has = subst (HasMachines depot w) (sym (none-made steps t)) h }

-- of some steps so many were made, behind others
pub made-behind : (depot : Shelves) (w : World) (before steps : List Path) (t : Family) → HasMade depot steps (settle_all paged_machines paged_talks before t) w
    → HasMade depot (before ++ steps) t w
made-behind depot w before steps t h = record {
  made = length before + h.made;
  has = subst (HasMachines depot w)
      (sym (ap (λ paths. settle_all paged_machines paged_talks paths t) (take-append-add before steps h.made) ∙ all-both paged_machines paged_talks before (take h.made steps) t)) h.has;
}

-- memory was wanting in a line before its first step
pub breaks-first : (depot : Shelves) (w : World) (line : ScriptLine) (s : Driven) → HasMachines depot w s.tree → BreaksOff depot line s w
breaks-first depot w line s h = inl (made-none depot w (steps_of line s.tree) s.tree h)

-- ---- where no live machine has the name

step-stays : (path : Path) (most : ℕ) (t : Family) → live_at paged_machines path t ≡ None → after_steps paged_machines paged_talks (made_at most path t) path t ≡ t
step-stays path most t none =
    ap (λ n. after_steps paged_machines paged_talks n path t) (no-step-made paged_machines paged_talks stalled_at most path t (nobody-stops paged_machines paged_talks stalled_at path t none))
    ∙ after-none paged_machines paged_talks path t

nothing-comes : (page : Option ℕ) → arrived_at page None ≡ None
nothing-comes None = refl
nothing-comes (Some page) = refl

give-stays : (path : Path) (place : ℕ) (s : Driven) → live_at paged_machines path s.tree ≡ None → given path place s ≡ None
give-stays path place s none =
    let page = page_at (siblings_of path) place s.sent in
    ap (arrived_at page) none ∙ nothing-comes page

-- a line does nothing
pub line-stays : (line : ScriptLine) (s : Driven) → live_at paged_machines (name_in line) s.tree ≡ None → (after_line line s).tree ≡ s.tree
line-stays (step path most) s none = step-stays path most s.tree none
line-stays (ask path) s none = refl
line-stays (push path page) s none = refl
line-stays (give path place) s none = ap (λ arrived. with_arrival path arrived s.tree) (give-stays path place s none)
line-stays (peek path address) s none = refl
line-stays (regs path) s none = refl

not-sent : (path : Path) (s : Driven) (of : Family → Option ℕ) → live_at paged_machines path s.tree ≡ None
    → reply_to (siblings_of path) (option_and_then of (live_at paged_machines path s.tree)) ≡ None
not-sent path s of none = no-page (siblings_of path) (option_and_then of (live_at paged_machines path s.tree)) (ap (option_and_then of) none)

-- and sends nothing
pub none-kept : (line : ScriptLine) (s : Driven) (lists : BTreeMap Path (Vec ℕ Global)) → live_at paged_machines (name_in line) s.tree ≡ None → Keeps lists s.sent
    → Keeps lists (after_line line s).sent
none-kept (step path most) s lists none h = h
none-kept (ask path) s lists none h = subst (λ reply. Keeps lists (with_reply reply s.sent)) (sym (not-sent path s asked_of none)) h
none-kept (push path page) s lists none h = subst (λ reply. Keeps lists (with_reply reply s.sent)) (sym (not-sent path s (pushed_of page) none)) h
none-kept (give path place) s lists none h = h
none-kept (peek path address) s lists none h = h
none-kept (regs path) s lists none h = h

-- and tells so. Its name may not even be looked for
pub not-looked-for : (depot : Shelves) (w : World) (line : ScriptLine) (s : Driven) (a : Answer) → HasMachines depot w s.tree
    → live_at paged_machines (name_in line) s.tree ≡ None → a ≡ unanswered line → DrivesLine depot line s (Ok a) w
not-looked-for depot w line s a h none is = (
  is ∙ sym (ap (answer_by line s) none),
  subst (HasMachines depot w) (sym (line-stays line s none)) h,
)

pub looks-at-none : (depot : Shelves) (w new : World) (line : ScriptLine) (s : Driven) (h : HasMachines depot w s.tree)
    → TakesNamed depot h.forest (name_in line) (Ok None) new → DrivesLine depot line s (Ok (unanswered line)) new
looks-at-none depot w new line s h named =
    let none = named-none depot w new s.tree (name_in line) h named in
    not-looked-for depot new line s (unanswered line) none.1 none.0 refl

pub looked-at-none : (depot : Shelves) (w new : World) (line : ScriptLine) (s : Driven) (h : HasMachines depot w s.tree)
    → TakesNamed depot h.forest (name_in line) (Ok None) new → live_at paged_machines (name_in line) s.tree ≡ None
looked-at-none depot w new line s h named = (named-none depot w new s.tree (name_in line) h named).0

-- memory was wanting as the machine was taken
pub looks-not : (depot : Shelves) (w new : World) (line : ScriptLine) (s : Driven) (h : HasMachines depot w s.tree) (e f : AllocError)
    → TakesNamed depot h.forest (name_in line) (Err e) new → DrivesLine depot line s (Err f) new
looks-not depot w new line s h e f stands = breaks-first depot new line s (named-kept depot w new s.tree (name_in line) h stands)

-- a line, by what it does with its name put together
pub by-name : (depot : Shelves) (w : World) (s : Driven) (line : ScriptLine) (of : Path → ScriptLine) (name path : Path) (r : Result Answer AllocError)
    → line ≡ of path → name_in (of path) ≡ path → name ≡ name_in line → DrivesLine depot (of name) s r w → DrivesLine depot line s r w
by-name depot w s line of name path r is at named h = subst (λ l. DrivesLine depot l s r w) (ap of (named ∙ ap name_in is ∙ at) ∙ sym is) h

pub keeps-by-name : (lists : BTreeMap Path (Vec ℕ Global)) (s : Driven) (line : ScriptLine) (of : Path → ScriptLine) (name path : Path) (r : Result Answer AllocError)
    → line ≡ of path → name_in (of path) ≡ path → name ≡ name_in line → IfOk r (λ answered. Keeps lists (after_line (of name) s).sent)
    → IfOk r (λ answered. Keeps lists (after_line line s).sent)
keeps-by-name lists s line of name path r is at named h =
    subst (λ l. IfOk r (λ answered. Keeps lists (after_line l s).sent)) (ap of (named ∙ ap name_in is ∙ at) ∙ sym is) h

-- no live machine has a name of so many forks
pub too-far : (depot : Shelves) (w : World) (t : Family) (name : Path) (h : HasMachines depot w t) → is_at_home paged_machines paged_talks name h.forest.tree ≡ false
    → live_at paged_machines name t ≡ None
too-far depot w t name h away = (named-none depot w w t name h (away, h.stands)).0

-- ---- lines that look

-- a machine that was taken and given back, with no step between
pub record Looked (depot : Shelves) (t : Family) (name : Path) (now : Paged) (w : World) : Type 0 where
  pub at : Family
  pub live : live_at paged_machines name t ≡ Some at
  pub is : (machine at).machine ≡ now
  pub has : HasMachines depot w t

pub looked : (depot : Shelves) (w mid new : World) (t : Family) (name : Path) (h : HasMachines depot w t) (lease : Lent)
    → TakesNamed depot h.forest name (Ok (Some lease)) mid → (HasLent depot mid t lease → HasBack depot new t lease) → Looked depot t name (now_of lease) new
looked depot w mid new t name h lease named gives =
    let lent = named-lent depot w mid t name h lease named in
    let back = gives lent in
    record {
      at = own-tree depot mid t lease lent;
      live = subst (λ n. live_at paged_machines n t ≡ Some (own-tree depot mid t lease lent)) named.1 (lent-live depot mid t lease lent);
      is = lent-first depot mid t lease lent named.2.ran;
      has = subst (HasMachines depot new) (ap (λ k. after_steps paged_machines paged_talks k lease.name t) named.2.ran ∙ after-none paged_machines paged_talks lease.name t) back.has;
    }

pub peeks : (depot : Shelves) (w : World) (s : Driven) (name : Path) (address : ℕ) (word : Option ℕ) (now : Paged) → word ≡ peeked now.machine.state address
    → Looked depot s.tree name now w → DrivesLine depot (peek name address) s (Ok (Word word)) w
peeks depot w s name address word now is look = (
  ap Word is ∙ ap (λ (p : Paged). Word (peeked p.machine.state address)) (sym look.is) ∙ sym (ap (answer_by (peek name address) s) look.live),
  look.has,
)

pub shows : (depot : Shelves) (w : World) (s : Driven) (name : Path) (values : List ℕ) (now : Paged) → values ≡ shown_registers now.machine.state
    → Looked depot s.tree name now w → DrivesLine depot (regs name) s (Ok (Registers values)) w
shows depot w s name values now is look = (
  ap Registers is ∙ ap (λ (p : Paged). Registers (shown_registers p.machine.state)) (sym look.is) ∙ sym (ap (answer_by (regs name) s) look.live),
  look.has,
)

-- ---- lines that send

-- of a machine that was looked at this page is sent, or none
module _ (depot : Shelves) (w : World) (s : Driven) (name : Path) (now : Paged) (look : Looked depot s.tree name now w)
    (lists : BTreeMap Path (Vec ℕ Global)) (page : Option ℕ) (placed : Option SentPlace)
    (sent : IsSent lists s.sent (reply_to (siblings_of name) page) placed) where
  reply-is : (of : Family → Option ℕ) → page ≡ of look.at
      → reply_to (siblings_of name) page ≡ reply_to (siblings_of name) (option_and_then of (live_at paged_machines name s.tree))
  reply-is of is = ap (reply_to (siblings_of name)) (is ∙ sym (ap (option_and_then of) look.live))

  -- it is told by the number of its page
  sent-told : (shown : Option SentPlace) (of : Family → Option ℕ) → shown ≡ sent_told now placed → page ≡ of look.at
      → shown ≡ sent_told (machine look.at).machine (place_of (reply_to (siblings_of name) (of look.at)) s.sent)
  sent-told shown of is at =
      is ∙ ap (λ p. sent_told p placed) (sym look.is)
      ∙ ap (sent_told (machine look.at).machine) (sent.0 ∙ ap (λ n. place_of (reply_to (siblings_of name) n) s.sent) at)

  pub asks : (shown : Option SentPlace) → shown ≡ sent_told now placed → page ≡ stalled_at now
      → DrivesLine depot (ask name) s (Ok (Ask shown)) w × Keeps lists (after_line (ask name) s).sent
  asks shown shown_is is =
      let at : page ≡ asked_of look.at = is ∙ sym (ap stalled_at look.is) in (
        (
          ap Ask (sent-told shown asked_of shown_is at) ∙ sym (ap (answer_by (ask name) s) look.live),
          look.has,
        ),
        subst (λ reply. Keeps lists (with_reply reply s.sent)) (reply-is asked_of at) sent.1,
      )

  pub pushes : (number : ℕ) (shown : Option SentPlace) → shown ≡ sent_told now placed → page ≡ place_in now number
      → DrivesLine depot (push name number) s (Ok (Push shown)) w × Keeps lists (after_line (push name number) s).sent
  pushes number shown shown_is is =
      let at : page ≡ pushed_of number look.at = is ∙ sym (ap (λ (p : Paged). place_in p number) look.is) in (
        (
          ap Push (sent-told shown (pushed_of number) shown_is at) ∙ sym (ap (answer_by (push name number) s) look.live),
          look.has,
        ),
        subst (λ reply. Keeps lists (with_reply reply s.sent)) (reply-is (pushed_of number) at) sent.1,
      )

-- ---- scripts

-- one more line
pub script-next : (done : List ScriptLine) (line : ScriptLine) (s : Driven) → after_script (done ++ line ∷ []) s ≡ after_line line (after_script done s)
unfolding after_script
script-next [] line s = refl
script-next (first ∷ rest) line s = script-next rest line (after_line first s)

told-next : (done : List ScriptLine) (line : ScriptLine) (s : Driven)
    → told (done ++ line ∷ []) s ≡ told done s ++ (name_in line, answer line (after_script done s)) ∷ []
unfolding after_script told
told-next [] line s = refl
told-next (first ∷ rest) line s = ap (λ more. (name_in first, answer first s) ∷ more) (told-next rest line (after_line first s))

pub text-next : (done : List ScriptLine) (line : ScriptLine) (t : Family)
    → told_text (done ++ line ∷ []) t ≡ told_text done t ++ told_line (name_in line, answer line (after_script done (begun t)))
unfolding told_text
text-next done line t =
    ap (flat_map told_line) (told-next done line (begun t)) ∙ flat_map-append told_line (told done (begun t)) ((name_in line, answer line (after_script done (begun t))) ∷ [])
    ∙ ap (λ more. flat_map told_line (told done (begun t)) ++ more) (append-nil (told_line (name_in line, answer line (after_script done (begun t)))))

-- the lines of the code, one after another
module _ (items : List Read) (i : ℕ) (item : Read) (within : i < length items) (is : item ≡ get_or items i item) where
  pub take-next : take (i + 1) (lines_read items) ≡ take i (lines_read items) ++ line_read item ∷ []
  take-next =
      take-map line_read (i + 1) items ∙ map_more line_read items i item within
      ∙ ap₂ (λ done next. done ++ line_read next ∷ []) (sym (take-map line_read i items)) (sym is)

  pub all-lines : take i (lines_read items) ++ (line_read item ∷ drop (i + 1) (lines_read items)) ≡ lines_read items
  all-lines =
      sym (append_assoc (take i (lines_read items)) (line_read item ∷ []) (drop (i + 1) (lines_read items)))
      ∙ ap (λ done. done ++ drop (i + 1) (lines_read items)) (sym take-next) ∙ take-append-drop (i + 1) (lines_read items)

-- memory was wanting in a line of a script
pub script-breaks : (depot : Shelves) (w : World) (lines done : List ScriptLine) (line : ScriptLine) (rest : List ScriptLine) (s : Driven)
    → done ++ (line ∷ rest) ≡ lines → BreaksOff depot line (after_script done s) w → HasBrokenOff depot lines s w
script-breaks depot w lines done line rest s all h = record { done = done; line = line; rest = rest; all = sym all; breaks = h }
