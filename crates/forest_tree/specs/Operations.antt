-- What a forest uses of a machine, and what it rests on. The definitions and laws of the forest stand
-- over every machine that meets `IsMachine`, whatever is inside it.
use Rattle.std.specs.Prelude.{◌≡◌, ℕ, suc, ◌+◌, ◌*◌, ◌<◌, ◌≤◌, ◌==◌, ◌&&◌, ◌||◌, not, Bool, true, false, List, [], ◌∷◌, length, Option, Some, None}

-- a step that is not the machine's own alone: it names a ticket
pub data Call : Type 0 where
  clone : ℕ → Call
  join : ℕ → Call
  kill : ℕ → Call

-- what a ticket was granted: the number of its children, and what each of them holds
pub record Grant : Type 0 where
  pub children : ℕ
  pub share : ℕ

-- the operations of the machines M, which end with the endings E
pub record Operations (M E : Type 0) : Type 0 where
  -- none while the machine lives
  pub ending : M → Option E
  -- the call that the next step of a live machine is, or none where the step is its own
  pub call : M → Option Call
  -- its limit less its steps
  pub left : M → ℕ
  -- what it may give to children, and what its tickets were granted
  pub holding : M → ℕ
  -- the numbers of its cloned tickets, in order
  pub cloned : M → List ℕ
  pub grant : M → ℕ → Grant
  -- a ticket of this number may come to be cloned: it is not cloned yet, or the number is not given yet
  pub may_clone : M → ℕ → Bool
  -- its tickets have distinct numbers below that of its next ticket, and where it lives it is below its limit
  pub is_good : M → Bool
  -- the machine after a step of its own
  pub advance : M → M
  -- the machine after its clone, and child k of that, from 1
  pub forked : M → M
  pub child : M → ℕ → M
  -- the machine after its join, by the endings of the children in order, and after its kill
  pub after_join : M → List E → M
  pub after_kill : M → M

unfoldable pub is_among : ℕ → List ℕ → Bool
is_among t [] = false
is_among t (u ∷ rest) = (u == t) || is_among t rest

module _ {M E : Type 0} (o : Operations M E) where
  abbrev pub is_cloned : M → ℕ → Bool
  is_cloned m t = is_among t (o.cloned m)

  -- a good machine that lives, and the call that its next step is, if any
  pub record Makes (m : M) (next : Option Call) : Type 0 where
    pub good : o.is_good m ≡ true
    pub lives : o.ending m ≡ None
    pub call : o.call m ≡ next

  -- n is m after one step: the step is counted, and what m holds and was granted stays; what of its
  -- tickets is cloned then; and no number of a ticket comes back
  pub record IsStep (m n : M) (then_cloned : ℕ → Bool) : Type 0 where
    pub good : o.is_good n ≡ true
    pub counted : o.left m ≡ suc (o.left n)
    pub holding : o.holding n ≡ o.holding m
    pub tickets : (t : ℕ) → is_cloned n t ≡ then_cloned t
    pub grants : (t : ℕ) → is_cloned n t ≡ true → o.grant n t ≡ o.grant m t
    pub once : (t : ℕ) → o.may_clone n t ≡ true → o.may_clone m t ≡ true

  -- n is a child of ticket t of m: it has counted the step of the clone, holds its share, and has
  -- cloned nothing
  pub record IsChild (m : M) (t : ℕ) (n : M) : Type 0 where
    pub good : o.is_good n ≡ true
    pub counted : o.left m ≡ suc (o.left n)
    pub holding : o.holding n ≡ (o.grant m t).share
    pub tickets : (u : ℕ) → is_cloned n u ≡ false

  -- what the machine owes to the laws
  pub record IsMachine : Type 0 where
    pub below_limit : (m : M) → o.is_good m ≡ true → o.ending m ≡ None → 0 < o.left m
    pub advance : (m : M) → Makes m None → IsStep m (o.advance m) (is_cloned m)
    pub cloned_once : (m : M) (t : ℕ) → o.is_good m ≡ true → is_cloned m t ≡ true → o.may_clone m t ≡ false
    pub clone_affords : (m : M) (t : ℕ) → Makes m (Some (clone t)) → (o.grant m t).children * (1 + (o.grant m t).share) ≤ o.holding m
    pub clone_may : (m : M) (t : ℕ) → Makes m (Some (clone t)) → o.may_clone m t ≡ true
    pub forked : (m : M) (t : ℕ) → Makes m (Some (clone t)) → IsStep m (o.forked m) (λ u. (t == u) || is_cloned m u)
    pub child : (m : M) (t k : ℕ) → Makes m (Some (clone t)) → 1 ≤ k → k ≤ (o.grant m t).children → IsChild m t (o.child m k)
    pub join_is_cloned : (m : M) (t : ℕ) → Makes m (Some (join t)) → is_cloned m t ≡ true
    pub after_join : (m : M) (t : ℕ) (endings : List E) → Makes m (Some (join t)) → length endings ≡ (o.grant m t).children
        → IsStep m (o.after_join m endings) (λ u. not (t == u) && is_cloned m u)
    pub kill_is_cloned : (m : M) (t : ℕ) → Makes m (Some (kill t)) → is_cloned m t ≡ true
    pub after_kill : (m : M) (t : ℕ) → Makes m (Some (kill t)) → IsStep m (o.after_kill m) (λ u. not (t == u) && is_cloned m u)
