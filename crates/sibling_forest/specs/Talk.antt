-- What the machines of one brood say to each other, and the words that wait for each of them.
use Rattle.std.specs.Prelude.{◌≡◌, ◌≢◌, ℕ, zero, suc, ◌≤◌, List, [], ◌∷◌, replicate, Option, Some, None}
use Rattle.forest_tree.specs.Operations.{Call, clone, join, kill, Operations, is_cloned, Makes, IsStep}

-- a step that sends a word to a sibling, or takes one that a sibling sent
pub data Talk : Type 0 where
  send : ℕ → Talk
  receive : ℕ → Talk

-- the sibling that it names
abbrev pub peer : Talk → ℕ
peer (send j) = j
peer (receive j) = j

-- how the machines M talk
pub record Talks (M : Type 0) : Type 0 where
  -- the talk that the next step of a live machine is, or none where it does not talk
  pub talk : M → Option Talk
  -- the word that it sends
  pub word : M → ℕ
  -- the machine after its receive, by the word, or by none where no word is there and the sibling has ended
  pub received : M → Option ℕ → M
  -- its number among the children of its ticket, from 1, and how many they are; both 0 in a root
  pub number : M → ℕ
  pub siblings : M → ℕ

-- the queues of the words to a machine, one for each child of its ticket in order; the oldest word is first
abbrev pub Inbox : Type 0
Inbox = List (List ℕ)

-- the k-th queue, from 1
unfoldable pub queue : ℕ → Inbox → List ℕ
queue k [] = []
queue zero (q ∷ rest) = []
queue (suc zero) (q ∷ rest) = q
queue (suc (suc k)) (q ∷ rest) = queue (suc k) rest

-- the queues with f of the k-th, from 1
unfoldable pub at_queue : (List ℕ → List ℕ) → ℕ → Inbox → Inbox
at_queue f k [] = []
at_queue f zero (q ∷ rest) = q ∷ rest
at_queue f (suc zero) (q ∷ rest) = f q ∷ rest
at_queue f (suc (suc k)) (q ∷ rest) = q ∷ at_queue f (suc k) rest

-- as many queues, with no word in them
unfoldable pub emptied : Inbox → Inbox
emptied [] = []
emptied (q ∷ rest) = [] ∷ emptied rest

abbrev pub first_taken : List ℕ → List ℕ
first_taken [] = []
first_taken (word ∷ rest) = rest

-- a machine and the words to it
pub record Box (M : Type 0) : Type 0 where
  pub machine : M
  pub inbox : Inbox

module _ {M E : Type 0} (o : Operations M E) (k : Talks M) where
  -- where a machine ends the queues to it are emptied
  abbrev pub kept_by : Option E → Inbox → Inbox
  kept_by None inbox = inbox
  kept_by (Some ending) inbox = emptied inbox

  abbrev pub after : M → Inbox → Box M
  after n inbox = record { machine = n; inbox = kept_by (o.ending n) inbox }

  -- a receive takes the word that is first
  abbrev pub after_receive : List ℕ → ℕ → Box M → Box M
  after_receive [] j b = after (k.received b.machine None) b.inbox
  after_receive (word ∷ rest) j b = after (k.received b.machine (Some word)) (at_queue first_taken j b.inbox)

  abbrev pub advance_by : Option Talk → Box M → Box M
  advance_by None b = after (o.advance b.machine) b.inbox
  advance_by (Some (send j)) b = after (o.advance b.machine) b.inbox
  advance_by (Some (receive j)) b = after_receive (queue j b.inbox) j b

  -- how many children a clone bears
  abbrev pub born_by : Option Call → M → ℕ
  born_by None m = 0
  born_by (Some (clone t)) m = (o.grant m t).children
  born_by (Some (join t)) m = 0
  born_by (Some (kill t)) m = 0

  -- what a forest uses of a machine with the words to it: as of the machine, but that a receive takes a word, that a
  -- machine that ends has no words, and that a child is born with none
  unfoldable pub boxed : Operations (Box M) E
  boxed = record {
    ending = λ b. o.ending b.machine;
    call = λ b. o.call b.machine;
    left = λ b. o.left b.machine;
    holding = λ b. o.holding b.machine;
    cloned = λ b. o.cloned b.machine;
    grant = λ b t. o.grant b.machine t;
    may_clone = λ b t. o.may_clone b.machine t;
    is_good = λ b. o.is_good b.machine;
    advance = λ b. advance_by (k.talk b.machine) b;
    forked = λ b. after (o.forked b.machine) b.inbox;
    child = λ b i. record { machine = o.child b.machine i; inbox = replicate (born_by (o.call b.machine) b.machine) [] };
    after_join = λ b endings. after (o.after_join b.machine endings) b.inbox;
    after_kill = λ b. after (o.after_kill b.machine) b.inbox;
  }

  -- n has the number that m has
  pub record HasNumberOf (m n : M) : Type 0 where
    pub number : k.number n ≡ k.number m
    pub siblings : k.siblings n ≡ k.siblings m

  -- what the machines owe to the laws beside the rules of tickets
  pub record IsTalking : Type 0 where
    -- a receive is a step of the machine's own
    pub received : (m : M) (j : ℕ) (word : Option ℕ) → Makes o m None → k.talk m ≡ Some (receive j)
        → IsStep o m (k.received m word) (is_cloned o m)
    -- a talk names another child of the ticket
    pub first : (m : M) (what : Talk) → k.talk m ≡ Some what → 1 ≤ peer what
    pub last : (m : M) (what : Talk) → k.talk m ≡ Some what → peer what ≤ k.siblings m
    pub other : (m : M) (what : Talk) → k.talk m ≡ Some what → peer what ≢ k.number m
    -- a machine keeps its number, and a child is born with its own
    pub advance_numbers : (m : M) → HasNumberOf m (o.advance m)
    pub received_numbers : (m : M) (word : Option ℕ) → HasNumberOf m (k.received m word)
    pub forked_numbers : (m : M) → HasNumberOf m (o.forked m)
    pub join_numbers : (m : M) (endings : List E) → HasNumberOf m (o.after_join m endings)
    pub kill_numbers : (m : M) → HasNumberOf m (o.after_kill m)
    pub child_number : (m : M) (t i : ℕ) → Makes o m (Some (clone t)) → 1 ≤ i → i ≤ (o.grant m t).children → k.number (o.child m i) ≡ i
    pub child_siblings : (m : M) (t i : ℕ) → Makes o m (Some (clone t)) → 1 ≤ i → i ≤ (o.grant m t).children
        → k.siblings (o.child m i) ≡ (o.grant m t).children
