use Rattle.std.proofs.Common.{◌≡◌, ◌⊎◌, inl, inr, None, refl, sym, ap, ◌∙◌, subst}
use Rattle.rv_decode.specs.Instruction.{Instruction}
use Rattle.rv_decode.specs.Kinds.{group_of}
use Rattle.rv_decode.specs.declared.kinds.Kind.{Kind}
use Rattle.rv_decode.specs.declared.kinds.Kind.TheVariants.{Ecall, Ebreak, Mret, Csrrw, Csrrs, Csrrc, Csrrwi, Csrrsi, Csrrci, LrW}
use Rattle.rv_decode.specs.declared.kinds.Kind.TheVariants.{ScW, AmoswapW, AmoaddW, AmoxorW, AmoandW, AmoorW, AmominW, AmomaxW, AmominuW, AmomaxuW}
use Rattle.forest_model.specs.State.{State}
use Rattle.vm_hart.specs.Kept.{stored_at}
use Rattle.vm_hart.specs.Keyed.{KeyedState}
use Rattle.vm_hart.proofs.hart.Hart.execute_fast.Goals as goal

-- an instruction of one of a few kinds that store nothing
abbrev StoresNothing : Instruction → State → Kind → Type 0
StoresNothing i s kind = stored_at (group_of kind) i s ≡ None

three : (i : Instruction) (s : State) (k a b d : Kind) → (k ≡ a) ⊎ ((k ≡ b) ⊎ (k ≡ d)) → k ≡ i.kind
    → StoresNothing i s a → StoresNothing i s b → StoresNothing i s d → StoresNothing i s i.kind
three i s k a b d (inl is) told x y z = subst (StoresNothing i s) (sym is ∙ told) x
three i s k a b d (inr (inl is)) told x y z = subst (StoresNothing i s) (sym is ∙ told) y
three i s k a b d (inr (inr is)) told x y z = subst (StoresNothing i s) (sym is ∙ told) z

four : (i : Instruction) (s : State) (k a b d e : Kind) → (k ≡ a) ⊎ ((k ≡ b) ⊎ ((k ≡ d) ⊎ (k ≡ e))) → k ≡ i.kind
    → StoresNothing i s a → StoresNothing i s b → StoresNothing i s d → StoresNothing i s e → StoresNothing i s i.kind
four i s k a b d e (inl is) told w x y z = subst (StoresNothing i s) (sym is ∙ told) w
four i s k a b d e (inr others) told w x y z = three i s k b d e others told x y z

pub returns-in-Ecall-clause-tried : goal.returns-in-Ecall-clause-tried
unfolding group_of
returns-in-Ecall-clause-tried g c =
    c.not_a_store-in-Ecall.ensures c.args.self.now c.args.self.now c.args.instr.now refl
    (three c.args.instr.now c.args.self.now.state c.args.kind Ecall Ebreak Mret c.in-Ecall.is c.requires.kind refl refl refl)
    (ap (λ (h : KeyedState). h.state.pc) c.self-in-Ecall.view_is)

pub returns-in-Csrrw-clause-tried : goal.returns-in-Csrrw-clause-tried
unfolding group_of
returns-in-Csrrw-clause-tried g c =
    c.not_a_store-in-Csrrw.ensures c.args.self.now c.args.self.now c.args.instr.now refl
    (three c.args.instr.now c.args.self.now.state c.args.kind Csrrw Csrrs Csrrc c.in-Csrrw.is c.requires.kind refl refl refl)
    (ap (λ (h : KeyedState). h.state.pc) c.self-in-Csrrw.view_is)

pub returns-in-Csrrwi-clause-tried : goal.returns-in-Csrrwi-clause-tried
unfolding group_of
returns-in-Csrrwi-clause-tried g c =
    c.not_a_store-in-Csrrwi.ensures c.args.self.now c.args.self.now c.args.instr.now refl
    (three c.args.instr.now c.args.self.now.state c.args.kind Csrrwi Csrrsi Csrrci c.in-Csrrwi.is c.requires.kind refl refl refl)
    (ap (λ (h : KeyedState). h.state.pc) c.self-in-Csrrwi.view_is)

pub returns-in-LrW-clause-tried : goal.returns-in-LrW-clause-tried
unfolding group_of
returns-in-LrW-clause-tried g c =
    c.not_a_store-in-LrW.ensures c.args.self.now c.args.self.now c.args.instr.now refl
    (four c.args.instr.now c.args.self.now.state c.args.kind LrW ScW AmoswapW AmoaddW c.in-LrW.is c.requires.kind refl refl refl refl)
    (ap (λ (h : KeyedState). h.state.pc) c.self-in-LrW.view_is)

pub returns-in-AmoxorW-clause-tried : goal.returns-in-AmoxorW-clause-tried
unfolding group_of
returns-in-AmoxorW-clause-tried g c =
    c.not_a_store-in-AmoxorW.ensures c.args.self.now c.args.self.now c.args.instr.now refl
    (three c.args.instr.now c.args.self.now.state c.args.kind AmoxorW AmoandW AmoorW c.in-AmoxorW.is c.requires.kind refl refl refl)
    (ap (λ (h : KeyedState). h.state.pc) c.self-in-AmoxorW.view_is)

pub returns-in-AmominW-clause-tried : goal.returns-in-AmominW-clause-tried
unfolding group_of
returns-in-AmominW-clause-tried g c =
    c.not_a_store-in-AmominW.ensures c.args.self.now c.args.self.now c.args.instr.now refl
    (four c.args.instr.now c.args.self.now.state c.args.kind AmominW AmomaxW AmominuW AmomaxuW c.in-AmominW.is c.requires.kind refl refl refl refl)
    (ap (λ (h : KeyedState). h.state.pc) c.self-in-AmominW.view_is)
