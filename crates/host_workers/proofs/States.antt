-- States: how they are dealt, and what two halves of them have done.
use Rattle.std.proofs.Common.{◌≡◌, ℕ, zero, suc, ◌+◌, ◌≤◌, false, eqb, List, [], ◌∷◌, ◌++◌, drop, length, map, slice_index_or, slice_set, take, refl, sym, ap, ap₂, ◌∙◌, subst, arith}
use Rattle.std.specs.List.{All}
use Rattle.std.proofs.Math.Seq.{drop-append_seam, take-append_seam}
use Rattle.std.proofs.lemmas.List.{length_push, map-append}
use Rattle.std.proofs.lemmas.List.Elements.{All-append, All-cons, All-drop, All-nil, All-take}
use Rattle.fork_board.specs.Passes.{BoardValue, HoldsNone, Joins, PassValue}
use Rattle.page_claims.specs.Calls.{IsSamePass}
use Rattle.page_claims.specs.Values.{ClaimsValue, PassValue as ClaimValue}
use Rattle.board_ends.specs.declared.finish.Finish.{Finish}
use Rattle.board_worker.specs.Claiming.{share}
use Rattle.host_workers.specs.Spread.{HasWorked, HaveWorked, IsDue, WorkAll, Works, child, finish_of, parent, states_of}
use Rattle.host_workers.specs.declared.state.State.{State}
use Rattle.host_workers.specs.declared.state.State.TheVariants.{Due, Begun, Done}
use Rattle.host_workers.proofs.Joining.{alone-works, both-work}

-- ---- the seeds of wires

-- those of two halves
pub both-seeded : {W S : Type 0} (seeds : W → S) (here there here' there' : List W) → map seeds here ≡ map seeds here' → map seeds there ≡ map seeds there'
    → map seeds (here ++ there) ≡ map seeds (here' ++ there')
both-seeded seeds here there here' there' first second =
    map-append seeds here there ∙ ap₂ (λ a b. a ++ b) first second ∙ sym (map-append seeds here' there')

-- that of one
pub one-seeded : {W S : Type 0} (seeds : W → S) (wires : List W) (d new : W) → length wires ≡ 1 → seeds new ≡ seeds (slice_index_or wires 0 d)
    → map seeds (slice_set wires 0 new) ≡ map seeds wires
one-seeded seeds (w ∷ []) d new one same = ap (λ s. s ∷ []) same
one-seeded seeds [] d new one same = absurd (cc)
one-seeded seeds (w ∷ v ∷ ws) d new one same = absurd (omega (arith, one))

-- ---- how they are dealt

-- the pass after so many were split off from it in all
abbrev pub split_to : PassValue → ℕ → PassValue
split_to pass n = record pass { splits = n }

-- the states of so many that were split off
unfoldable pub split_off : ClaimsValue → ℕ → PassValue → ℕ → List State
split_off claims first pass zero = []
split_off claims first pass (suc k) = Due first (child pass) (share claims) ∷ split_off claims (first + 1) (parent pass) k

pub one-more : (claims : ClaimsValue) (first : ℕ) (pass : PassValue) (k : ℕ)
    → split_off claims first pass (suc k) ≡ split_off claims first pass k ++ Due (first + k) (child (split_to pass (pass.splits + k))) (share claims) ∷ []
unfolding split_off
one-more claims first pass zero = ap₂ (λ m n. Due m (child (split_to pass n)) (share claims) ∷ []) (omega arith) (omega arith)
one-more claims first pass (suc k) =
    ap (λ l. Due first (child pass) (share claims) ∷ l)
    (one-more claims (first + 1) (parent pass) k
    ∙ ap₂ (λ m n. split_off claims (first + 1) (parent pass) k ++ Due m (child (split_to pass n)) (share claims) ∷ []) (omega arith) (omega arith))

pub all-dealt : (claims : ClaimsValue) (first : ℕ) (pass : PassValue) (k : ℕ)
    → split_off claims first pass k ++ Due (first + k) (split_to pass (pass.splits + k)) (share claims) ∷ [] ≡ states_of claims first pass k
unfolding states_of split_off
all-dealt claims first pass zero = ap₂ (λ m n. Due m (split_to pass n) (share claims) ∷ []) (omega arith) (omega arith)
all-dealt claims first pass (suc k) =
    ap (λ l. Due first (child pass) (share claims) ∷ l)
    (ap₂ (λ m n. split_off claims (first + 1) (parent pass) k ++ Due m (split_to pass n) (share claims) ∷ []) (omega arith) (omega arith)
    ∙ all-dealt claims (first + 1) (parent pass) k)

-- so many states are dealt, and the rest of the pass is this
pub record Dealt (board : BoardValue) (claims : ClaimsValue) (pass rest : PassValue) (states : List State) : Type 0 where
  pub dealt : states ≡ split_off claims 0 pass (length states)
  pub left : rest ≡ split_to pass (pass.splits + length states)
  pub due : All (IsDue board claims) states
  pub none : HoldsNone rest

pub none-dealt : (board : BoardValue) (claims : ClaimsValue) (pass : PassValue) (states : List State) → states ≡ [] → HoldsNone pass → Dealt board claims pass pass states
unfolding split_off
none-dealt board claims pass states same none =
    let few : length states ≡ 0 = ap length same in
    record {
      dealt = same ∙ ap (split_off claims 0 pass) (sym few);
      left = ap (split_to pass) (omega (arith, few));
      due = subst (All (IsDue board claims)) (sym same) (All-nil (IsDue board claims));
      none = none;
    }

-- one more state, with a pass of the board that holds no machine
due-more : (board : BoardValue) (claims : ClaimsValue) (states : List State) (number : ℕ) (pass : PassValue) → All (IsDue board claims) states → pass.board ≡ board → HoldsNone pass
    → All (IsDue board claims) (states ++ Due number pass (share claims) ∷ [])
due-more board claims states number pass due of_board none =
    All-append (IsDue board claims) states (Due number pass (share claims) ∷ []) due
    (All-cons (IsDue board claims) (Due number pass (share claims)) [] (record { of_board = of_board; none = none }, record { table = refl; one = refl }) (All-nil (IsDue board claims)))

pub one-dealt : (board : BoardValue) (claims : ClaimsValue) (pass rest old new : PassValue) (states more : List State) (number : ℕ) → pass.board ≡ board
    → Dealt board claims pass rest states → number ≡ length states → old ≡ parent rest → new ≡ child rest → HoldsNone new
    → more ≡ states ++ Due number new (share claims) ∷ [] → Dealt board claims pass old more
one-dealt board claims pass rest old new states more number of_board d count is_old is_new none is_more =
    let many : length more ≡ length states + 1 = ap length is_more ∙ length_push states (Due number new (share claims)) in
    let is_split : new ≡ child (split_to pass (pass.splits + length states)) = is_new ∙ ap child d.left in
    record {
      dealt =
          is_more ∙ ap (λ l. l ++ Due number new (share claims) ∷ []) d.dealt
          ∙ ap₂ (λ m p. split_off claims 0 pass (length states) ++ Due m p (share claims) ∷ []) (omega (arith, count)) is_split
          ∙ sym (one-more claims 0 pass (length states)) ∙ ap (split_off claims 0 pass) (omega (arith, many));
      left = is_old ∙ ap parent d.left ∙ ap (split_to pass) (omega (arith, many));
      due = subst (All (IsDue board claims)) (sym is_more)
          (due-more board claims states number new d.due (ap (λ (p : PassValue). p.board) is_split ∙ of_board) none);
      none = subst HoldsNone (sym is_old) d.none;
    }

-- the last one has the rest of the pass
module _ (board : BoardValue) (claims : ClaimsValue) (pass rest : PassValue) (states all : List State) (number : ℕ) (of_board : pass.board ≡ board)
    (d : Dealt board claims pass rest states) (count : number ≡ length states) (is_all : all ≡ states ++ Due number rest (share claims) ∷ []) where
  pub are-dealt : (k : ℕ) → number ≡ k → all ≡ states_of claims 0 pass k
  are-dealt k last =
      is_all ∙ ap (λ l. l ++ Due number rest (share claims) ∷ []) d.dealt
      ∙ ap₂ (λ m p. split_off claims 0 pass (length states) ++ Due m p (share claims) ∷ []) (omega (arith, count)) d.left
      ∙ all-dealt claims 0 pass (length states) ∙ ap (states_of claims 0 pass) (sym count ∙ last)

  pub are-due : All (IsDue board claims) all
  are-due = subst (All (IsDue board claims)) (sym is_all)
      (due-more board claims states number rest d.due (ap (λ (p : PassValue). p.board) d.left ∙ of_board) d.none)

-- two parts of them
pub both-due : (board : BoardValue) (claims : ClaimsValue) (states front back : List State) → states ≡ front ++ back → All (IsDue board claims) states
    → All (IsDue board claims) front × All (IsDue board claims) back
both-due board claims states front back same due = (
  subst (All (IsDue board claims)) (ap (take (length front)) same ∙ take-append_seam front back) (All-take (IsDue board claims) (length front) states due),
  subst (All (IsDue board claims)) (ap (drop (length front)) same ∙ drop-append_seam front back) (All-drop (IsDue board claims) (length front) states due),
)

-- ---- what they have done

-- some are left
pub some-left : {W : Type 0} (rest : List W) → eqb (length rest) 0 ≡ false → 1 ≤ length rest
some-left [] e = absurd (cc)
some-left (wire ∷ rest) e = omega arith

module _ {W : Type 0} (streak : W → ℕ) where
  pub both-halves : (here there : List W) (olds olds' news news' : List State) → HaveWorked streak here olds news → HaveWorked streak there olds' news'
      → HaveWorked streak (here ++ there) (olds ++ olds') (news ++ news')
  unfolding HaveWorked
  both-halves [] there [] olds' [] news' h k = k
  both-halves (w ∷ ws) there (a ∷ olds) olds' (b ∷ news) news' h k = (h.0, both-halves ws there olds olds' news news' h.1 k)
  both-halves [] there [] olds' (b ∷ news) news' h k = absurd h
  both-halves [] there (a ∷ olds) olds' news news' h k = absurd h
  both-halves (w ∷ ws) there [] olds' news news' h k = absurd h
  both-halves (w ∷ ws) there (a ∷ olds) olds' [] news' h k = absurd h

  -- one worker alone
  pub one-worked : (wires : List W) (wire : W) (states : List State) (d new : State) → length wires ≡ 1 → length states ≡ length wires
      → HasWorked streak wire (slice_index_or states 0 d) new → HaveWorked streak (slice_set wires 0 wire) states (slice_set states 0 new)
  unfolding HaveWorked
  one-worked (w ∷ []) wire (old ∷ []) d new one each h = (h, tt)
  one-worked [] wire states d new one each h = absurd (cc)
  one-worked (w ∷ v ∷ ws) wire states d new one each h = absurd (omega (arith, one))
  one-worked (w ∷ []) wire [] d new one each h = absurd (omega (arith, each))
  one-worked (w ∷ []) wire (old ∷ o ∷ os) d new one each h = absurd (omega (arith, each))

  -- ---- how their passes are joined

  is-done : (wire : W) (old new : State) → HasWorked streak wire old new → (pass : PassValue) × (claimed : ClaimValue) × (finish : Finish) × (new ≡ Done pass claimed finish)
  is-done wire (Due number old claiming) (Done new claimed finish) h = (new, claimed, finish, refl)
  is-done wire (Due number old claiming) (Due other new claimed) h = absurd h
  is-done wire (Due number old claiming) Begun h = absurd h
  is-done wire Begun new h = absurd h
  is-done wire (Done old claiming end) new h = absurd h

  -- the first of them is done
  pub first-done : (wires : List W) (olds : List State) (new : State) (news : List State) → HaveWorked streak wires olds (new ∷ news)
      → (pass : PassValue) × (claimed : ClaimValue) × (finish : Finish) × (new ≡ Done pass claimed finish)
  unfolding HaveWorked
  first-done (w ∷ ws) (old ∷ olds) new news h = is-done w old new h.0
  first-done [] [] new news h = absurd h
  first-done [] (old ∷ olds) new news h = absurd h
  first-done (w ∷ ws) [] new news h = absurd h

  -- there is no other
  pub last-works : (claims : ClaimsValue) (i : ℕ) (wire : W) (pass : PassValue) (k : ℕ) (split : PassValue) (claimed : ClaimValue) (one : Finish) (news : List State) → 1 ≡ k + 1
      → HaveWorked streak (wire ∷ []) (states_of claims i pass k) (Done split claimed one ∷ news) → WorkAll streak (wire ∷ []) pass split one × IsSamePass (share claims) claimed
  unfolding HaveWorked states_of
  last-works claims i wire pass zero split claimed one news single h = (alone-works streak wire pass split one h.0.0, h.0.1)
  last-works claims i wire pass (suc k) split claimed one news single h = absurd (omega (arith, single))

  -- one of several, and the rest
  pub record Several (claims : ClaimsValue) (i : ℕ) (wire : W) (wires : List W) (pass split : PassValue) (claimed : ClaimValue) (one : Finish) (news : List State) : Type 0 where
    pub k : ℕ
    pub many : length wires ≡ k + 1
    pub first : Works streak wire (child pass) split one
    pub same : IsSamePass (share claims) claimed
    pub rest : HaveWorked streak wires (states_of claims (i + 1) (parent pass) k) news

  pub several : (claims : ClaimsValue) (i : ℕ) (wire : W) (wires : List W) (pass : PassValue) (k : ℕ) (split : PassValue) (claimed : ClaimValue) (one : Finish) (news : List State) → 1 ≤ length wires
      → length (wire ∷ wires) ≡ k + 1 → HaveWorked streak (wire ∷ wires) (states_of claims i pass k) (Done split claimed one ∷ news)
      → Several claims i wire wires pass split claimed one news
  unfolding HaveWorked states_of
  several claims i wire wires pass zero split claimed one news more many h = absurd (omega (arith, more, many))
  several claims i wire wires pass (suc k) split claimed one news more many h =
      record { k = k; many = omega (arith, many); first = h.0.0; same = h.0.1; rest = h.1 }

  -- all of them, as they were dealt
  pub as-dealt : (claims : ClaimsValue) (wires : List W) (pass : PassValue) (count : ℕ) (due news : List State) → 1 ≤ count → length wires ≡ count
      → ((k : ℕ) → count ≡ k + 1 → due ≡ states_of claims 0 pass k) → HaveWorked streak wires due news
      → (k : ℕ) × (length wires ≡ k + 1) × HaveWorked streak wires (states_of claims 0 pass k) news
  as-dealt claims wires pass zero due news some same dealt h = absurd (omega (arith, some))
  as-dealt claims wires pass (suc k) due news some same dealt h =
      (k, omega (arith, same), subst (λ l. HaveWorked streak wires l news) (dealt k (omega arith)) h)

  -- the first of those that are left, which has worked with a pass that was split off, or with the rest of it
  module _ (claims : ClaimsValue) (i : ℕ) (wires : List W) (states : List State) (wire : W) (rest : List W) (new : State) (news : List State) (split : PassValue) (claimed : ClaimValue) (one : Finish)
      (is_wires : wires ≡ wire ∷ rest) (is_states : states ≡ new ∷ news) (is_new : new ≡ Done split claimed one)
      (pass : PassValue) (k : ℕ) (many : length wires ≡ k + 1) (h : HaveWorked streak wires (states_of claims i pass k) states) where
    here : HaveWorked streak (wire ∷ rest) (states_of claims i pass k) (Done split claimed one ∷ news)
    here =
        subst (λ l. HaveWorked streak l (states_of claims i pass k) (Done split claimed one ∷ news)) is_wires
        (subst (λ l. HaveWorked streak wires (states_of claims i pass k) l) (is_states ∙ ap (λ s. s ∷ news) is_new) h)

    count : length (wire ∷ rest) ≡ k + 1
    count = sym (ap length is_wires) ∙ many

    pub alone : rest ≡ [] → WorkAll streak wires pass split one × IsSamePass (share claims) claimed
    alone none =
        let is_one : wires ≡ wire ∷ [] = is_wires ∙ ap (λ l. wire ∷ l) none in
        subst (λ l. WorkAll streak l pass split one × IsSamePass (share claims) claimed) (sym is_one)
        (last-works claims i wire pass k split claimed one news (sym (ap length is_one) ∙ many)
        (subst (λ l. HaveWorked streak (wire ∷ l) (states_of claims i pass k) (Done split claimed one ∷ news)) none here))

    pub beside : 1 ≤ length rest → Several claims i wire rest pass split claimed one news
    beside more = several claims i wire rest pass k split claimed one news more count here

    pub joined : 1 ≤ length rest → (left all : PassValue) (end : Finish) → WorkAll streak rest (parent pass) left end → Joins left split all
        → WorkAll streak wires pass all (finish_of one end)
    joined more left all end others j =
        subst (λ l. WorkAll streak l pass all (finish_of one end)) (sym is_wires)
        (both-work streak wire rest pass split left all one end (beside more).first others j)
