mod CompiledExamples
mod SessionExamples
mod SaidExamples
