use Rattle.std.proofs.Common.{◌≡◌, ◌+◌, ◌/◌, ◌≤◌, [], List, ℕ, length, sym, ap, ◌∙◌, subst, arith}
use Rattle.std.proofs.lemmas.List.{length-map}
use Rattle.std.proofs.lemmas.Result.{IfOk-weaker}
use Rattle.page_frames.specs.Tables.{is_own}
use Rattle.cow_disk.specs.Paged.{disk_over}
use Rattle.image_depot.specs.Image.{FrozenImage}
use Rattle.guest_mem.proofs.Images.{length_over, reads_over, whole_alone, reads_alone, sectors_over, disk_reads_over, disk_is_whole, disk_reads_alone}
use Rattle.guest_mem.proofs.memory.GuestMem.freeze_counted.Goals as goal

pub returns-in_err-entries-clause-most : goal.returns-in_err-entries-clause-most
returns-in_err-entries-clause-most g c =
    let pages : length c.self.inside.entries ≡ length c.args.self.now.here = sym (length-map c.self.inside.entries is_own) ∙ ap (λ ram. length ram.here) c.self.view_is in
    subst (λ n. c.share_counted.new.steps ≤ c.args.steps.now + (n + 63) / 64) pages c.share_counted.ensures.most

pub frozen-requires : goal.frozen-requires
frozen-requires g c = c.requires.ram c.in-Some.key (ap (λ ram. ram.key) (sym c.self.view_is) ∙ c.in-Some.is)

pub over-requires : goal.over-requires
over-requires g c = record {
  pages = length_over c.self.inside.entries _ c.self.inside.key c.self.invariant.based c.in_ok-entries.ensures.value c.in-Some.key _ c.in-Some.is c.frozen.ensures;
  sectors = sectors_over c.args.disk c.args.self.now.key c.requires.disk c.in-Some.key _ (ap (λ ram. ram.key) (sym c.self.view_is) ∙ c.in-Some.is) c.frozen.ensures;
}

pub new-requires : goal.new-requires
new-requires g c = record {
  whole = whole_alone c.self.inside.entries _ c.self.inside.key c.self.invariant.based c.in_ok-entries.ensures.value c.in-None.is;
  pages_fit = omega (arith, ap length c.in_ok-entries.ensures.value, c.self.invariant.most);
  disk_whole = disk_is_whole c.args.disk c.args.self.now.key c.requires.disk (ap (λ ram. ram.key) (sym c.self.view_is) ∙ c.in-None.is);
}

pub returns-in-Some : goal.returns-in-Some
returns-in-Some g c =
    let reads = reads_over c.self.inside.entries _ c.self.inside.key c.self.invariant.based c.in_ok-entries.ensures.value c.in-Some.key _ c.in-Some.is c.frozen.ensures
    ∙ ap (λ ram. ram.reads) c.self.view_is in
    let below = disk_reads_over c.args.disk c.args.self.now.key c.requires.disk c.in-Some.key c.frozen.result.now
    (ap (λ ram. ram.key) (sym c.self.view_is) ∙ c.in-Some.is) c.frozen.ensures in
    let pages : length c.self.inside.entries ≡ length c.args.self.now.here = sym (length-map c.self.inside.entries is_own) ∙ ap (λ ram. length ram.here) c.self.view_is in
    record {
      value = IfOk-weaker c.over.result _ _
          (λ image is.
          is
          ∙ ap (λ (contents : List ℕ). let frozen : FrozenImage = record { contents = contents; disk = disk_over c.args.disk c.frozen.result.now.disk; input = c.args.input } in frozen) reads
          ∙ ap (λ (disk : List ℕ). let frozen : FrozenImage = record { contents = c.args.self.now.reads; disk = disk; input = c.args.input } in frozen) below) c.over.ensures;
      cost = IfOk-weaker c.over.result _ _ (λ image is. c.in_ok-entries.ensures.cost ∙ ap (λ n. c.args.steps.now + (n + 63) / 64) pages) c.over.ensures;
      most = subst (λ n. c.share_counted.new.steps ≤ c.args.steps.now + (n + 63) / 64) pages c.in_ok-entries.ensures.most;
    }

pub returns-in-None : goal.returns-in-None
returns-in-None g c =
    let reads = reads_alone c.self.inside.entries _ c.self.inside.key c.self.invariant.based c.in_ok-entries.ensures.value c.in-None.is ∙ ap (λ ram. ram.reads) c.self.view_is in
    let below = disk_reads_alone c.args.disk c.args.self.now.key c.requires.disk (ap (λ ram. ram.key) (sym c.self.view_is) ∙ c.in-None.is) in
    let pages : length c.self.inside.entries ≡ length c.args.self.now.here = sym (length-map c.self.inside.entries is_own) ∙ ap (λ ram. length ram.here) c.self.view_is in
    record {
      value = IfOk-weaker c.new.result _ _
          (λ image is.
          is
          ∙ ap (λ (contents : List ℕ). let frozen : FrozenImage = record { contents = contents; disk = disk_over c.args.disk []; input = c.args.input } in frozen) reads
          ∙ ap (λ (disk : List ℕ). let frozen : FrozenImage = record { contents = c.args.self.now.reads; disk = disk; input = c.args.input } in frozen) below) c.new.ensures;
      cost = IfOk-weaker c.new.result _ _ (λ image is. c.in_ok-entries.ensures.cost ∙ ap (λ n. c.args.steps.now + (n + 63) / 64) pages) c.new.ensures;
      most = subst (λ n. c.share_counted.new.steps ≤ c.args.steps.now + (n + 63) / 64) pages c.in_ok-entries.ensures.most;
    }
